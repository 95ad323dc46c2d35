use Rattle.std.proofs.Common.{◌≡◌, ⊎_elim, inl, ℕ, true, refl, rules}
use Rattle.gptman.specs.Copy.{IsCoherent}
use Rattle.gptman.specs.Table.{entries_in}
use Rattle.gptman.specs.declared.table.GPT.{GPT}
use Rattle.gptedit_core.specs.Making.{IsAlways, IsRemade, RefusesRemaking}
use Rattle.gptedit_core.specs.Planning.IsLeftAs.{is_refused}
use Rattle.gptman.proofs.Outcomes.{if_err_weaker}
use Rattle.gptedit_core.proofs.Planned.{all_decided, all_have, memory_is_no_io}
use Rattle.gptedit_core.proofs.Remade.{remade_coherent, remade_sector}
use Rattle.gptedit_core.proofs.making.CreationPlan.change.Goals as goal

pub returns-in-Ok-clause-failure : goal.returns-in-Ok-clause-failure
returns-in-Ok-clause-failure g c = (
  inl (⊎_elim (λ same. same) (λ failed. absurd failed.0) c.in_ok-size.ensures.failure.0),
  λ failed. absurd (memory_is_no_io c.decide.result c.decide.ensures.refused failed),
)

pub returns-in-Ok-clause-refused : goal.returns-in-Ok-clause-refused
returns-in-Ok-clause-refused g c = if_err_weaker c.decide.result (λ e is. inl is) c.decide.ensures.refused

pub returns-in-Ok-clause-value : goal.returns-in-Ok-clause-value
returns-in-Ok-clause-value g c =
    let len : ℕ = (g.D.Disk.state c.args.disk.now).size in
    let creation = c.args.self.now in
    all_decided (IsRemade creation len) IsAlways (RefusesRemaking creation len) creation.is_dry true c.args.table.now c.in-Ok.next c.decide.new.table
    (search rules) (λ always. refl, λ yes. tt) c.decide.result (search rules)

pub returns-in-Ok-clause-sector : goal.returns-in-Ok-clause-sector
returns-in-Ok-clause-sector g c =
    let creation = c.args.self.now in
    all_have (λ (m : GPT). m.sector_size ≡ c.args.table.now.sector_size) creation.is_dry true c.args.table.now c.in-Ok.next c.decide.new.table
    refl (remade_sector creation _ c.args.table.now c.in-Ok.next c.in-Ok.ensures.planned) c.decide.result (search rules)

pub returns-in-Ok-clause-coherent : goal.returns-in-Ok-clause-coherent
returns-in-Ok-clause-coherent g c =
    let creation = c.args.self.now in
    all_have (λ (m : GPT). IsCoherent m.header (entries_in m)) creation.is_dry true c.args.table.now c.in-Ok.next c.decide.new.table
    c.requires.coherent (remade_coherent creation _ c.args.table.now c.in-Ok.next c.in-Ok.ensures.planned) c.decide.result (search rules)

pub returns-in_ok-clone-in-Err-Refused-clause-value : goal.returns-in_ok-clone-in-Err-Refused-clause-value
returns-in_ok-clone-in-Err-Refused-clause-value g c = is_refused c.in-Err-Refused.refusal (search rules) (search rules)
