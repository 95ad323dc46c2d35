use Rattle.std.proofs.Common.{rules, ◌≡◌, true, ℕ, List}
use Rattle.gptman_plan.specs.Ends.{zeroed}
use Rattle.gptman_plan.specs.Plan.{Act, acts_of}
use Rattle.gptman_plan.proofs.Acts.{stored}
use Rattle.gptman_plan.proofs.recording.RecorderDisk.sync.Goals as goal

pub returns-clause-wrote : goal.returns-clause-wrote
returns-clause-wrote c = λ honest.
    let d = c.args.self.now in
    let start : List ℕ = zeroed d.ends in
    let acts : List Act = acts_of d.plan.bytes.items d.plan.steps.items in
    let after : List Act = acts_of c.sync.new.self.bytes.items c.sync.new.self.steps.items in
    let yes : c.sync.result ≡ true = search rules in
    stored start acts after (c.sync.ensures.done yes) d.ends.size d.position d.failures d.position d.failures
