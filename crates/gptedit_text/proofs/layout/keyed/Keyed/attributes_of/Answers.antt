use Rattle.std.proofs.Common.{arith, refl}
use Rattle.std.proofs.lemmas.Result.{err_from_is_err_and}
use Rattle.gptedit_text.proofs.Lists.{at_end, at_first, at_next, at_wrong}
use Rattle.gptedit_text.proofs.layout.keyed.Keyed.attributes_of.Goals as goal

pub loop-value-init : goal.loop-value-init
loop-value-init c = at_first _ 0 refl

pub loop-value-preserved : goal.loop-value-preserved
loop-value-preserved c =
    at_next c.args.list.now c.loop-value.value-index c.loop-value.bits c.in_ok-more.more c.value-item.result (omega arith) c.value-item.is
    c.loop-value.invariant c.in_ok-more.ensures.said

pub returns-clause-said : goal.returns-clause-said
returns-clause-said c = at_end c.args.list.now c.loop-value.value-index c.loop-value.bits (omega arith) c.loop-value.invariant

pub returns-in_err-more-clause-refused : goal.returns-in_err-more-clause-refused
returns-in_err-more-clause-refused c =
    let p = err_from_is_err_and c.from_residual.result c.from_residual.ensures.1 in
    rw (p.1) (at_wrong c.args.list.now c.loop-value.value-index c.loop-value.bits c.value-item.result (omega arith) c.value-item.is
    c.loop-value.invariant c.in_err-more.ensures.refused)
