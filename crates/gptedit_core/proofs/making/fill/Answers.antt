use Rattle.std.proofs.lemmas.Result.{err_from_is_err_and}
use Rattle.gptedit_core.proofs.Bounded.{filled_layout, filled_new, filled_refused}
use Rattle.gptedit_core.proofs.making.fill.Goals as goal

pub check-requires : goal.check-requires
check-requires c =
    filled_layout c.args.creation.now c.args.size c.args.empty c.bound.new.table c.put_layout.new.table c.requires.empty c.requires.room c.in_ok-bound.ensures.bounds c.in_ok-bound.ensures.value
    c.in_ok-put_layout.ensures.applied

pub returns-in_err-check-clause-refused : goal.returns-in_err-check-clause-refused
returns-in_err-check-clause-refused c =
    let p = err_from_is_err_and c.from_residual-in_err-check.result c.from_residual-in_err-check.ensures.1 in
    rw (p.1, p.2)
    (filled_refused c.args.creation.now c.args.size c.args.empty c.bound.new.table c.put_layout.new.table c.requires.empty c.requires.room c.in_ok-bound.ensures.bounds c.in_ok-bound.ensures.value
    c.in_ok-put_layout.ensures.applied _ c.in_err-check.ensures.refused)

pub returns-clause-planned : goal.returns-clause-planned
returns-clause-planned c =
    filled_new c.args.creation.now c.args.size c.args.empty c.bound.new.table c.put_layout.new.table c.requires.empty c.requires.room c.in_ok-bound.ensures.bounds c.in_ok-bound.ensures.value
    c.in_ok-put_layout.ensures.applied c.in_ok-check.ensures.may
