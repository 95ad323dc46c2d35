use Rattle.std.proofs.Common.{◌≡◌, ⊎_elim, inl, ℕ, refl, rules}
use Rattle.gptman.specs.Copy.{IsCoherent}
use Rattle.gptman.specs.Table.{entries_in}
use Rattle.gptman.specs.declared.table.GPT.{GPT}
use Rattle.gptman.proofs.Outcomes.{if_err_weaker}
use Rattle.gptedit_core.specs.Planning.{IsNeeded}
use Rattle.gptedit_core.specs.Reshaping.{IsReshaped, RefusesReshaped}
use Rattle.gptedit_core.proofs.Planned.{all_decided, all_have, all_refused, memory_is_no_io}
use Rattle.gptedit_core.proofs.Reshaped.{reshaped_coherent, reshaped_sector}
use Rattle.gptedit_core.proofs.reshaping.ReshapedRequestPlan.change.Goals as goal

pub returns-in-Ok-clause-failure : goal.returns-in-Ok-clause-failure
returns-in-Ok-clause-failure g c = (
  inl (⊎_elim (λ same. same) (λ failed. absurd failed.0) c.in_ok-size.ensures.failure.0),
  λ failed. absurd (memory_is_no_io c.decide.result c.decide.ensures.refused failed),
)

pub returns-in-Ok-clause-refused : goal.returns-in-Ok-clause-refused
returns-in-Ok-clause-refused g c = if_err_weaker c.decide.result (λ e is. inl is) c.decide.ensures.refused

pub returns-in-Ok-clause-value : goal.returns-in-Ok-clause-value
returns-in-Ok-clause-value g c =
    let len : ℕ = (g.D.Disk.state c.args.disk.now).size in
    let reshaped = c.args.self.now in
    all_decided (IsReshaped reshaped len) (IsNeeded reshaped.request.job) (RefusesReshaped reshaped len) reshaped.request.is_dry c.is_needed-is_needed.result c.args.table.now c.in-Ok.next c.decide.new.table
    (search rules) (search rules) c.decide.result (search rules)

pub returns-in-Ok-clause-sector : goal.returns-in-Ok-clause-sector
returns-in-Ok-clause-sector g c =
    let reshaped = c.args.self.now in
    all_have (λ (m : GPT). m.sector_size ≡ c.args.table.now.sector_size) reshaped.request.is_dry c.is_needed-is_needed.result c.args.table.now c.in-Ok.next c.decide.new.table
    refl (reshaped_sector reshaped _ c.args.table.now c.in-Ok.next c.in-Ok.ensures.planned) c.decide.result (search rules)

pub returns-in-Ok-clause-coherent : goal.returns-in-Ok-clause-coherent
returns-in-Ok-clause-coherent g c =
    let reshaped = c.args.self.now in
    all_have (λ (m : GPT). IsCoherent m.header (entries_in m)) reshaped.request.is_dry c.is_needed-is_needed.result c.args.table.now c.in-Ok.next c.decide.new.table
    c.requires.coherent (reshaped_coherent reshaped _ c.args.table.now c.in-Ok.next c.in-Ok.ensures.planned) c.decide.result (search rules)

pub returns-in-Err-Refused-clause-value : goal.returns-in-Err-Refused-clause-value
returns-in-Err-Refused-clause-value g c =
    let len : ℕ = (g.D.Disk.state c.args.disk.now).size in
    let reshaped = c.args.self.now in
    let refused : RefusesReshaped reshaped len c.args.table.now c.in-Err-Refused.refusal = (search rules) in
    all_refused (IsReshaped reshaped len) (IsNeeded reshaped.request.job) (RefusesReshaped reshaped len) reshaped.request.is_dry c.args.table.now c.in-Err-Refused.refusal refused c.refuse.result
    c.refuse.ensures.outcome
