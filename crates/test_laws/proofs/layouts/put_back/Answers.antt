use Rattle.std.proofs.Common.{◌≤◌, ℕ, List, false, length, refl, subst, arith}
use Rattle.std.specs.Prelude.{IfErr}
use Rattle.gptedit_core.specs.Applying.{RefusesApplying}
use Rattle.gptedit_core.specs.declared.asked.RequestedLayout.{RequestedLayout}
use Rattle.gptedit_core.specs.declared.plan.Job.TheVariants.{Apply}
use Rattle.gptedit_core.specs.declared.plan.Request.{Request}
use Rattle.test_laws.proofs.Restored.{all_for_memory}
use Rattle.test_laws.proofs.layouts.put_back.Goals as goal

pub returns-clause-taken : goal.returns-clause-taken
returns-clause-taken c = λ len aligned laid valid.
    let layout : RequestedLayout = c.in_ok-layout.layout in
    let request : Request = record { job = Apply layout; random = c.in_ok-random.random; is_dry = false } in
    let enough : length layout.asked.items ≤ length request.random.items = omega (arith, c.in_ok-random.ensures.count) in
    all_for_memory c.layouts_of_tables_are_taken.ensures c.args.table.now len layout request c.in_ok-layout.ensures.value refl enough aligned laid valid c.apply_layout.result
    (subst (λ (rs : List (List ℕ)). IfErr c.apply_layout.result (RefusesApplying layout rs c.args.table.now)) c.deref.ensures.value c.apply_layout.ensures.refused)
