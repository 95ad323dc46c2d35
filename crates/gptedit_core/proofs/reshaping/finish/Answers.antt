use Rattle.std.proofs.Common.{rules}
use Rattle.std.proofs.lemmas.Result.{err_from_is_err_and}
use Rattle.gptedit_core.proofs.Remade.{refuted}
use Rattle.gptedit_core.proofs.Reshaped.{is_reshaped, last_fits, next_layout, stop_check, stop_cut, stop_order}
use Rattle.gptedit_core.proofs.reshaping.finish.Goals as goal

pub cut-requires : goal.cut-requires
cut-requires c = record {
  last = last_fits c.args.reshaped.now c.args.size c.args.was.now c.args.mid.now c.requires.layout c.requires.room c.requires.bounds c.requires.done;
}

pub returns-in_err-next-clause-refused : goal.returns-in_err-next-clause-refused
returns-in_err-next-clause-refused c =
    let p = err_from_is_err_and c.from_residual.result c.from_residual.ensures.1 in
    rw (p.1, p.2)
    (stop_cut c.args.reshaped.now c.args.size c.args.was.now c.requires.layout c.requires.room c.requires.bounds c.args.mid.now c.requires.done _ c.in_err-next.ensures.refused)

pub check-requires : goal.check-requires
check-requires c =
    next_layout c.args.reshaped.now c.args.size c.args.was.now c.requires.layout c.requires.room c.requires.bounds c.args.mid.now c.requires.done c.in_ok-next.next (search rules) c.in_ok-next.ensures.value

pub returns-in_err-check-clause-refused : goal.returns-in_err-check-clause-refused
returns-in_err-check-clause-refused c =
    let p = err_from_is_err_and c.from_residual-in_err-check.result c.from_residual-in_err-check.ensures.1 in
    rw (p.1, p.2)
    (stop_check c.args.reshaped.now c.args.size c.args.was.now c.requires.layout c.requires.room c.requires.bounds c.args.mid.now c.requires.done c.in_ok-next.next (search rules) c.in_ok-next.ensures.value _
    c.in_err-check.ensures.refused)

pub returns-then-not-has_order-clause-refused : goal.returns-then-not-has_order-clause-refused
returns-then-not-has_order-clause-refused c =
    stop_order c.args.reshaped.now c.args.size c.args.was.now c.requires.layout c.requires.room c.requires.bounds c.args.mid.now c.requires.done c.in_ok-next.next (search rules) c.in_ok-next.ensures.value
    c.in_ok-check.ensures.may (refuted c.has_order.result (search rules) c.has_order.ensures)

pub returns-clause-planned : goal.returns-clause-planned
returns-clause-planned c =
    is_reshaped c.args.reshaped.now c.args.size c.args.was.now c.requires.layout c.requires.room c.requires.bounds c.args.mid.now c.requires.done c.in_ok-next.next (search rules) c.in_ok-next.ensures.value
    c.in_ok-check.ensures.may (c.has_order.ensures.0 (search rules))
