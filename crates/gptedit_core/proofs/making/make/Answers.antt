use Rattle.std.proofs.Common.{⊎_elim, inl, inr, ap, sym, ◌∙◌, refl, ℕ, subst, rules}
use Rattle.std.proofs.lemmas.Result.{err_from_is_err_and}
use Rattle.gptman.specs.Fault.{fault_of}
use Rattle.gptman.specs.Layout.{HasLayout}
use Rattle.gptman.proofs.Outcomes.{on_err_of}
use Rattle.gptman.proofs.Runs.{rose_since}
use Rattle.gptedit_core.specs.Making.{IsPlannedNew}
use Rattle.gptedit_core.specs.Making.AnswersMaking.{is_dry_run, is_made, is_refused}
use Rattle.gptedit_core.specs.declared.making.Made.TheVariants.{New}
use Rattle.gptedit_core.proofs.Anew.{made_leaves, made_refused, new_above, on_disk, planned_new}
use Rattle.gptedit_core.proofs.Bounded.{new_coherent, new_layout}
use Rattle.gptedit_core.proofs.making.make.Goals as goal

pub returns-in-Refused-clause-done : goal.returns-in-Refused-clause-done
returns-in-Refused-clause-done g c = λ honest.
    let len : ℕ = (g.D.Disk.state c.args.disk.now).size in
    is_refused c.in-Refused.refusal (subst (IsPlannedNew c.args.creation.now c.args.sector_size len) c.in-Refused.is c.in_ok-next.ensures.value) (c.plan.ensures.reads.only honest) refl

pub returns-then-creation-clause-done : goal.returns-then-creation-clause-done
returns-then-creation-clause-done g c = λ honest.
    let len : ℕ = (g.D.Disk.state c.args.disk.now).size in
    is_dry_run c.in-New.next (subst (IsPlannedNew c.args.creation.now c.args.sector_size len) c.in-New.is c.in_ok-next.ensures.value) (search rules) (c.plan.ensures.reads.only honest) refl

pub write_into-requires-clause-sector : goal.write_into-requires-clause-sector
write_into-requires-clause-sector g c =
    let len : ℕ = (g.D.Disk.state c.args.disk.now).size in
    let is = planned_new c.args.creation.now c.args.sector_size len _ c.in-New.next c.in_ok-written.written c.in-New.is c.in_ok-written.ensures.ok c.in_ok-next.ensures.value in
    new_above c.args.creation.now c.args.sector_size len c.in_ok-written.written is c.requires.sector

pub write_into-requires-clause-coherent : goal.write_into-requires-clause-coherent
write_into-requires-clause-coherent g c =
    let len : ℕ = (g.D.Disk.state c.args.disk.now).size in
    let is = planned_new c.args.creation.now c.args.sector_size len _ c.in-New.next c.in_ok-written.written c.in-New.is c.in_ok-written.ensures.ok c.in_ok-next.ensures.value in
    new_coherent c.args.creation.now c.args.sector_size len c.in_ok-written.written is

pub returns-in_err-write_into-clause-refused : goal.returns-in_err-write_into-clause-refused
returns-in_err-write_into-clause-refused g c = λ honest.
    let old = g.D.Disk.state c.args.disk.now in
    let mid = g.D.Disk.state c.plan.new.disk in
    let new = g.D.Disk.state c.write_into.new.disk in
    let w = c.in_ok-written.written in
    let read = c.plan.ensures.reads.only honest in
    let keeps = c.plan.ensures.reads.keeps in
    let is = planned_new c.args.creation.now c.args.sector_size old.size _ c.in-New.next w c.in-New.is c.in_ok-written.ensures.ok c.in_ok-next.ensures.value in
    let layout = subst (λ (n : ℕ). HasLayout w n) (sym keeps.size) (new_layout c.args.creation.now c.args.sector_size old.size w is) in
    let p = err_from_is_err_and c.from_residual-in_err-write_into.result c.from_residual-in_err-write_into.ensures.1 in
    rw (p.1, p.2)
    (made_refused c.args.creation.now c.args.sector_size w old mid new read keeps is (c.write_into.ensures.wrote read.wrote.honest) (fault_of c.in_err-write_into.field-0.0) (search rules)
    (c.in_err-write_into.ensures.room layout is.filled.may.valid) (c.in_err-write_into.ensures.untouched read.wrote.honest))

pub returns-in_err-write_into-clause-cause : goal.returns-in_err-write_into-clause-cause
returns-in_err-write_into-clause-cause g c =
    let old = g.D.Disk.state c.args.disk.now in
    let p = err_from_is_err_and c.from_residual-in_err-write_into.result c.from_residual-in_err-write_into.ensures.1 in
    rw (p.1, p.2)
    (λ failed. rose_since old (g.D.Disk.state c.plan.new.disk) (g.D.Disk.state c.write_into.new.disk) c.plan.ensures.reads.keeps (c.in_err-write_into.ensures.failure.1 failed))

pub returns-in_err-write_into-clause-kept : goal.returns-in_err-write_into-clause-kept
returns-in_err-write_into-clause-kept g c = λ honest.
    let read = c.plan.ensures.reads.only honest in
    let refused = c.in_err-write_into.ensures in
    on_err_of _ (⊎_elim
    (λ failed. inl (rose_since _ (g.D.Disk.state c.plan.new.disk) (g.D.Disk.state c.write_into.new.disk) c.plan.ensures.reads.keeps (refused.failure.1 failed)))
    (λ same. inr (record { view = same.view ∙ read.view; pending = same.pending ∙ read.pending })) (refused.untouched read.wrote.honest))

pub returns-in_err-write_into-clause-leaves : goal.returns-in_err-write_into-clause-leaves
returns-in_err-write_into-clause-leaves g c = λ honest.
    let old = g.D.Disk.state c.args.disk.now in
    let w = c.in_ok-written.written in
    let read = c.plan.ensures.reads.only honest in
    let is = planned_new c.args.creation.now c.args.sector_size old.size _ c.in-New.next w c.in-New.is c.in_ok-written.ensures.ok c.in_ok-next.ensures.value in
    made_leaves c.args.creation.now c.args.sector_size w old (g.D.Disk.state c.plan.new.disk) (g.D.Disk.state c.write_into.new.disk) read c.plan.ensures.reads.keeps is
    (c.write_into.ensures.wrote read.wrote.honest) c.write_into.ensures.one_good

pub returns-clause-done : goal.returns-clause-done
returns-clause-done g c = λ honest.
    let old = g.D.Disk.state c.args.disk.now in
    let w = c.in_ok-written.written in
    let read = c.plan.ensures.reads.only honest in
    let is = planned_new c.args.creation.now c.args.sector_size old.size _ c.in-New.next w c.in-New.is c.in_ok-written.ensures.ok c.in_ok-next.ensures.value in
    is_made w is (search rules)
    (on_disk c.args.creation.now c.args.sector_size w old (g.D.Disk.state c.plan.new.disk) (g.D.Disk.state c.write_into.new.disk) read c.plan.ensures.reads.keeps is
    (c.write_into.ensures.wrote read.wrote.honest) c.in_ok-write_into.ensures.stored c.in_ok-write_into.ensures.each_copy)
    (ap New (sym c.in_ok-written.ensures.ok))

pub returns-clause-leaves : goal.returns-clause-leaves
returns-clause-leaves g c = λ honest.
    let old = g.D.Disk.state c.args.disk.now in
    let w = c.in_ok-written.written in
    let read = c.plan.ensures.reads.only honest in
    let is = planned_new c.args.creation.now c.args.sector_size old.size _ c.in-New.next w c.in-New.is c.in_ok-written.ensures.ok c.in_ok-next.ensures.value in
    made_leaves c.args.creation.now c.args.sector_size w old (g.D.Disk.state c.plan.new.disk) (g.D.Disk.state c.write_into.new.disk) read c.plan.ensures.reads.keeps is
    (c.write_into.ensures.wrote read.wrote.honest) c.write_into.ensures.one_good
