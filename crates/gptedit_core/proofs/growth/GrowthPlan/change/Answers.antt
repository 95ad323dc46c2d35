use Rattle.std.proofs.Common.{◌≡◌, ℕ, refl, rules, subst, not, Some}
use Rattle.gptman.specs.Fault.{fault_of, overflow}
use Rattle.gptman.specs.Fit.{fit_fault}
use Rattle.gptman.specs.declared.table.GPT.{GPT}
use Rattle.gptedit_core.specs.Growing.{IsGrown, RefusesGrowth}
use Rattle.gptedit_core.specs.Growing.RefusesGrowth.{too_small}
use Rattle.gptedit_core.specs.Planning.{Differs}
use Rattle.gptedit_core.specs.declared.refusal.Refusal.TheVariants.{TooSmall}
use Rattle.gptedit_core.proofs.Planned.{all_decided, all_refused, differs, no_failure}
use Rattle.gptedit_core.proofs.growth.GrowthPlan.change.Goals as goal

pub returns-in-Err-Overflow-clause-value : goal.returns-in-Err-Overflow-clause-value
returns-in-Err-Overflow-clause-value g c =
    let len : ℕ = (g.D.Disk.state c.args.disk.now).size in
    let bounds = c.args.self.now.bounds in
    let fault = no_failure _ (fault_of c.in-Err-Overflow.field-0) (g.D.Disk.state c.args.disk.now) (g.D.Disk.state c.fit.new.disk) (search rules) c.in-Err-Overflow.ensures.refused in
    all_refused (IsGrown bounds len) Differs (RefusesGrowth bounds len) c.args.self.now.is_dry c.args.table.now TooSmall
    (too_small (subst (λ (t : GPT). fit_fault t.header t.sector_size len ≡ Some overflow) c.in_ok-next.ensures.ok fault) refl)
    c.refuse.result c.refuse.ensures.outcome

pub returns-in-Ok-settle-clause-value : goal.returns-in-Ok-settle-clause-value
returns-in-Ok-settle-clause-value g c =
    let len : ℕ = (g.D.Disk.state c.args.disk.now).size in
    let bounds = c.args.self.now.bounds in
    let same = c.is_same-is_needed.result in
    all_decided (IsGrown bounds len) Differs (RefusesGrowth bounds len) c.args.self.now.is_dry (not same) c.args.table.now c.settle.new.table c.decide.new.table
    (search rules)
    (differs same c.args.table.now c.settle.new.table c.is_same-is_needed.ensures) c.decide.result c.decide.ensures.outcome

pub returns-in-Err-Refused-clause-value : goal.returns-in-Err-Refused-clause-value
returns-in-Err-Refused-clause-value g c =
    let len : ℕ = (g.D.Disk.state c.args.disk.now).size in
    let bounds = c.args.self.now.bounds in
    all_refused (IsGrown bounds len) Differs (RefusesGrowth bounds len) c.args.self.now.is_dry c.args.table.now c.in-Err-Refused.refusal
    (subst (λ (n : ℕ). RefusesGrowth bounds n c.args.table.now c.in-Err-Refused.refusal) c.in-Ok.ensures.size (rw c.in-Err-Refused.field-0-is at c.in-Err-Refused.ensures.refused))
    c.refuse-in-Err-Refused.result c.refuse-in-Err-Refused.ensures.outcome
