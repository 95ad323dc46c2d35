use Rattle.std.proofs.Common.{◌≡◌, ℕ, refl, rules}
use Rattle.gptman.specs.Copy.{IsCoherent}
use Rattle.gptman.specs.Table.{entries_in}
use Rattle.gptman.specs.declared.table.GPT.{GPT}
use Rattle.gptedit_core.specs.Planning.{IsNeeded, IsPlanned, RefusesRequest}
use Rattle.gptedit_core.specs.Planning.IsLeftAs.{is_refused}
use Rattle.gptedit_core.proofs.Kept.{done_coherent, done_keeps}
use Rattle.gptedit_core.proofs.Planned.{all_decided, all_have}
use Rattle.gptedit_core.proofs.plan.RequestPlan.change.Goals as goal

pub returns-in-Ok-clause-value : goal.returns-in-Ok-clause-value
returns-in-Ok-clause-value g c =
    let len : ℕ = (g.D.Disk.state c.args.disk.now).size in
    let request = c.args.self.now in
    all_decided (IsPlanned request len) (IsNeeded request.job) (RefusesRequest request len) request.is_dry c.is_needed-is_needed.result c.args.table.now c.make.new.table c.decide.new.table
    (search rules) (search rules) c.decide.result (search rules)

pub returns-in-Ok-clause-sector : goal.returns-in-Ok-clause-sector
returns-in-Ok-clause-sector g c =
    let request = c.args.self.now in
    let keeps = done_keeps request.job request.random.items c.args.table.now c.make.new.table (search rules) in
    all_have (λ (m : GPT). m.sector_size ≡ c.args.table.now.sector_size) request.is_dry c.is_needed-is_needed.result c.args.table.now c.make.new.table c.decide.new.table
    refl keeps.sector c.decide.result (search rules)

pub returns-in-Ok-clause-coherent : goal.returns-in-Ok-clause-coherent
returns-in-Ok-clause-coherent g c =
    let request = c.args.self.now in
    all_have (λ (m : GPT). IsCoherent m.header (entries_in m)) request.is_dry c.is_needed-is_needed.result c.args.table.now c.make.new.table c.decide.new.table
    c.requires.coherent (done_coherent request.job request.random.items c.args.table.now c.make.new.table (search rules) c.requires.coherent) c.decide.result (search rules)

pub returns-clause-value : goal.returns-clause-value
returns-clause-value g c = is_refused c.in-Err-Refused.refusal (search rules) (search rules)
