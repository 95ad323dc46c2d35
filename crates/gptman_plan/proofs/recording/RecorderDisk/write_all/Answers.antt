use Rattle.std.proofs.Common.{rules, ◌≡◌, ◌≤◌, ◌+◌, length, true, ℕ, List, arith}
use Rattle.gptman_plan.specs.Ends.{zeroed}
use Rattle.gptman_plan.specs.Plan.{Act, acts_of, bytes_after}
use Rattle.gptman_plan.proofs.Acts.{was_put}
use Rattle.gptman_plan.proofs.recording.RecorderDisk.write_all.Goals as goal

pub returns-clause-wrote : goal.returns-clause-wrote
returns-clause-wrote c = λ honest.
    let d = c.args.self.now in
    let start : List ℕ = zeroed d.ends in
    let acts : List Act = acts_of d.plan.bytes.items d.plan.steps.items in
    let after : List Act = acts_of c.write.new.self.bytes.items c.write.new.self.steps.items in
    let yes : c.write.result ≡ true = search rules in
    let fits : d.position + length c.args.buf.now ≤ length (bytes_after start acts) = omega (arith, d.long, c.requires) in
    was_put start acts after d.position c.args.buf.now fits (c.write.ensures.done yes) d.ends.size d.position d.failures (d.position + length c.args.buf.now) d.failures
