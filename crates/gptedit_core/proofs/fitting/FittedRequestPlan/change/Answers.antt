use Rattle.std.proofs.Common.{◌≡◌, ℕ, refl, rules, subst, Some}
use Rattle.gptman.specs.Copy.{IsCoherent}
use Rattle.gptman.specs.Fault.{fault_of, overflow}
use Rattle.gptman.specs.Fit.{fit_fault}
use Rattle.gptman.specs.Table.{entries_in}
use Rattle.gptman.specs.declared.table.GPT.{GPT}
use Rattle.gptedit_core.specs.Fitting.{IsPlannedFitted, RefusesFitted}
use Rattle.gptedit_core.specs.Fitting.RefusesFitted.{too_small}
use Rattle.gptedit_core.specs.Planning.{IsNeeded}
use Rattle.gptedit_core.specs.declared.refusal.Refusal.TheVariants.{TooSmall}
use Rattle.gptedit_core.proofs.Fitted.{planned_coherent, planned_sector}
use Rattle.gptedit_core.proofs.Planned.{all_decided, all_have, all_refused, no_failure}
use Rattle.gptedit_core.proofs.fitting.FittedRequestPlan.change.Goals as goal

pub returns-in-Err-Overflow-clause-value : goal.returns-in-Err-Overflow-clause-value
returns-in-Err-Overflow-clause-value g c =
    let len : ℕ = (g.D.Disk.state c.args.disk.now).size in
    let request = c.args.self.now.request in
    let fault = no_failure _ (fault_of c.in-Err-Overflow.field-0) (g.D.Disk.state c.args.disk.now) (g.D.Disk.state c.fit.new.disk) (search rules) c.in-Err-Overflow.ensures.refused in
    all_refused (IsPlannedFitted request len) (IsNeeded request.job) (RefusesFitted request len) request.is_dry c.args.table.now TooSmall
    (too_small (subst (λ (t : GPT). fit_fault t.header t.sector_size len ≡ Some overflow) c.in_ok-next.ensures.ok fault) refl)
    c.refuse.result c.refuse.ensures.outcome

pub returns-in-Ok-make_fitted-clause-value : goal.returns-in-Ok-make_fitted-clause-value
returns-in-Ok-make_fitted-clause-value g c =
    let len : ℕ = (g.D.Disk.state c.args.disk.now).size in
    let request = c.args.self.now.request in
    all_decided (IsPlannedFitted request len) (IsNeeded request.job) (RefusesFitted request len) request.is_dry c.is_needed-is_needed.result c.args.table.now c.make_fitted.new.table
    c.decide.new.table
    (search rules) (c.is_needed-is_needed.ensures.1, c.is_needed-is_needed.ensures.0) c.decide.result c.decide.ensures.outcome

pub returns-in-Ok-make_fitted-clause-sector : goal.returns-in-Ok-make_fitted-clause-sector
returns-in-Ok-make_fitted-clause-sector g c =
    let len : ℕ = (g.D.Disk.state c.args.disk.now).size in
    let request = c.args.self.now.request in
    let planned : IsPlannedFitted request len c.args.table.now c.make_fitted.new.table = (search rules) in
    all_have (λ (m : GPT). m.sector_size ≡ c.args.table.now.sector_size) request.is_dry c.is_needed-is_needed.result c.args.table.now c.make_fitted.new.table c.decide.new.table
    refl (planned_sector request len c.args.table.now c.make_fitted.new.table planned) c.decide.result c.decide.ensures.outcome

pub returns-in-Ok-make_fitted-clause-coherent : goal.returns-in-Ok-make_fitted-clause-coherent
returns-in-Ok-make_fitted-clause-coherent g c =
    let len : ℕ = (g.D.Disk.state c.args.disk.now).size in
    let request = c.args.self.now.request in
    let planned : IsPlannedFitted request len c.args.table.now c.make_fitted.new.table = (search rules) in
    all_have (λ (m : GPT). IsCoherent m.header (entries_in m)) request.is_dry c.is_needed-is_needed.result c.args.table.now c.make_fitted.new.table c.decide.new.table
    c.requires.coherent (planned_coherent request len c.args.table.now c.make_fitted.new.table planned c.requires.coherent) c.decide.result c.decide.ensures.outcome

pub returns-in-Err-Refused-clause-value : goal.returns-in-Err-Refused-clause-value
returns-in-Err-Refused-clause-value g c =
    let len : ℕ = (g.D.Disk.state c.args.disk.now).size in
    let request = c.args.self.now.request in
    all_refused (IsPlannedFitted request len) (IsNeeded request.job) (RefusesFitted request len) request.is_dry c.args.table.now c.in-Err-Refused.refusal
    (subst (λ (n : ℕ). RefusesFitted request n c.args.table.now c.in-Err-Refused.refusal) c.in-Ok.ensures.size (rw c.in-Err-Refused.field-0-is at c.in-Err-Refused.ensures.refused))
    c.refuse-in-Err-Refused.result c.refuse-in-Err-Refused.ensures.outcome
