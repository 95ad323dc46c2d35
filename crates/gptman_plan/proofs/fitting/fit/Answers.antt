use Rattle.std.proofs.Common.{◌≡◌, ℕ, ⊎_elim, inr, sym, subst}
use Rattle.std.specs.Prelude.{None, Some}
use Rattle.gptman.specs.Fault.{fault_of}
use Rattle.gptman.specs.Fit.{fit_fault}
use Rattle.gptman_plan.proofs.Fitted.{settled_err}
use Rattle.gptman_plan.proofs.Unfailed.{unfailed}
use Rattle.gptman_plan.proofs.fitting.fit.Goals as goal

pub returns-in-Ok-clause-fits : goal.returns-in-Ok-clause-fits
returns-in-Ok-clause-fits c =
    let g = c.args.table in
    subst (λ (n : ℕ). fit_fault g.header g.sector_size n ≡ None) (λ i. (c.new-disk.ensures.ends i).size) (⊎_elim (λ is. sym is) (λ failed. absurd failed.0) c.in-Ok.ensures.answer)

pub returns-in-Err-clause-refused : goal.returns-in-Err-clause-refused
returns-in-Err-clause-refused c =
    let g = c.args.table in
    inr (subst (λ (n : ℕ). fit_fault g.header g.sector_size n ≡ Some (fault_of c.in-Err.fault)) (λ i. (c.new-disk.ensures.ends i).size)
    (settled_err (fit_fault g.header g.sector_size c.new-disk.result.ends.size) c.in-Err.fault _ _ (unfailed c.new-disk.result c.update_from.new.disk c.new-disk.ensures.torn c.in-Err.ensures.reads) c.in-Err.ensures.answer))
