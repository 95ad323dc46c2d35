use Rattle.std.proofs.Common.{◌≡◌, ⊎_elim, inl, ℕ, refl, rules, subst, Some}
use Rattle.gptman.specs.Copy.{IsCoherent}
use Rattle.gptman.specs.Fault.{fault_of, overflow}
use Rattle.gptman.specs.Fit.{fit_fault}
use Rattle.gptman.specs.Table.{entries_in}
use Rattle.gptman.specs.declared.table.GPT.{GPT}
use Rattle.gptman.proofs.Outcomes.{if_err_weaker}
use Rattle.gptedit_core.specs.FittedReshaping.{IsBoth, RefusesBoth}
use Rattle.gptedit_core.specs.FittedReshaping.RefusesBoth.{too_small}
use Rattle.gptedit_core.specs.Planning.{IsNeeded}
use Rattle.gptedit_core.specs.declared.refusal.Refusal.TheVariants.{TooSmall}
use Rattle.gptedit_core.proofs.Planned.{all_decided, all_have, all_refused, memory_is_no_io}
use Rattle.gptedit_core.proofs.Refitted.{both_coherent, both_sector, of_overflow}
use Rattle.gptedit_core.proofs.fitted_reshaping.FittedReshapedRequestPlan.change.Goals as goal

pub returns-in-Err-Overflow-clause-value : goal.returns-in-Err-Overflow-clause-value
returns-in-Err-Overflow-clause-value g c =
    let len : ℕ = (g.D.Disk.state c.args.disk.now).size in
    let reshaped = c.args.self.now.reshaped in
    let fault = of_overflow _ (fault_of c.in-Err-Overflow.field-0) (g.D.Disk.state c.args.disk.now) (g.D.Disk.state c.fit_with_empty.new.disk) (search rules) c.in-Err-Overflow.ensures.refused in
    all_refused (IsBoth reshaped len) (IsNeeded reshaped.request.job) (RefusesBoth reshaped len) reshaped.request.is_dry c.args.table.now TooSmall
    (too_small (subst (λ (t : GPT). fit_fault t.header t.sector_size len ≡ Some overflow) c.in_ok-fitted.ensures.ok fault) refl)
    c.refuse.result c.refuse.ensures.outcome

pub returns-in-Ok-make_both-clause-failure : goal.returns-in-Ok-make_both-clause-failure
returns-in-Ok-make_both-clause-failure g c = (
  inl (⊎_elim (λ same. same) (λ failed. absurd failed.0) c.in-Ok.ensures.failure.0),
  λ failed. absurd (memory_is_no_io c.decide.result c.decide.ensures.refused failed),
)

pub returns-in-Ok-make_both-clause-refused : goal.returns-in-Ok-make_both-clause-refused
returns-in-Ok-make_both-clause-refused g c = if_err_weaker c.decide.result (λ e is. inl is) c.decide.ensures.refused

pub returns-in-Ok-make_both-clause-value : goal.returns-in-Ok-make_both-clause-value
returns-in-Ok-make_both-clause-value g c =
    let len : ℕ = (g.D.Disk.state c.args.disk.now).size in
    let reshaped = c.args.self.now.reshaped in
    let is : IsBoth reshaped len c.args.table.now c.in-Ok-make_both.next = subst (λ (n : ℕ). IsBoth reshaped n c.args.table.now c.in-Ok-make_both.next) c.in-Ok.ensures.size c.in-Ok-make_both.ensures.planned in
    all_decided (IsBoth reshaped len) (IsNeeded reshaped.request.job) (RefusesBoth reshaped len) reshaped.request.is_dry c.is_needed-is_needed.result c.args.table.now c.in-Ok-make_both.next
    c.decide.new.table
    is (c.is_needed-is_needed.ensures.1, c.is_needed-is_needed.ensures.0) c.decide.result c.decide.ensures.outcome

pub returns-in-Ok-make_both-clause-sector : goal.returns-in-Ok-make_both-clause-sector
returns-in-Ok-make_both-clause-sector g c =
    let reshaped = c.args.self.now.reshaped in
    all_have (λ (m : GPT). m.sector_size ≡ c.args.table.now.sector_size) reshaped.request.is_dry c.is_needed-is_needed.result c.args.table.now c.in-Ok-make_both.next c.decide.new.table
    refl (both_sector reshaped _ c.args.table.now c.in-Ok-make_both.next c.in-Ok-make_both.ensures.planned) c.decide.result c.decide.ensures.outcome

pub returns-in-Ok-make_both-clause-coherent : goal.returns-in-Ok-make_both-clause-coherent
returns-in-Ok-make_both-clause-coherent g c =
    let reshaped = c.args.self.now.reshaped in
    all_have (λ (m : GPT). IsCoherent m.header (entries_in m)) reshaped.request.is_dry c.is_needed-is_needed.result c.args.table.now c.in-Ok-make_both.next c.decide.new.table
    c.requires.coherent (both_coherent reshaped _ c.args.table.now c.in-Ok-make_both.next c.in-Ok-make_both.ensures.planned) c.decide.result c.decide.ensures.outcome

pub returns-in-Err-Refused-clause-value : goal.returns-in-Err-Refused-clause-value
returns-in-Err-Refused-clause-value g c =
    let len : ℕ = (g.D.Disk.state c.args.disk.now).size in
    let reshaped = c.args.self.now.reshaped in
    all_refused (IsBoth reshaped len) (IsNeeded reshaped.request.job) (RefusesBoth reshaped len) reshaped.request.is_dry c.args.table.now c.in-Err-Refused.refusal
    (subst (λ (n : ℕ). RefusesBoth reshaped n c.args.table.now c.in-Err-Refused.refusal) c.in-Ok.ensures.size (rw c.in-Err-Refused.field-0-is at c.in-Err-Refused.ensures.refused))
    c.refuse-in-Err-Refused.result c.refuse-in-Err-Refused.ensures.outcome
