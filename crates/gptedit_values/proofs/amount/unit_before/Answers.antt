use Rattle.std.proofs.Common.{arith}
use Rattle.gptedit_values.proofs.Tables.{lacks_all, lacks_first, lacks_next}
use Rattle.gptedit_values.proofs.amount.unit_before.Goals as goal

pub loop-unit-init : goal.loop-unit-init
loop-unit-init c = lacks_first _ _

pub loop-unit-preserved : goal.loop-unit-preserved
loop-unit-preserved c =
    lacks_next _ _ _ _ _ c.loop-unit.invariant (omega arith) (λ (number, numeral, is). c.in-None.ensures number numeral is)

pub returns-clause-unknown : goal.returns-clause-unknown
returns-clause-unknown c =
    λ _ number name unit numeral has is. lacks_all _ (λ row. row.bytes) _ _ _ c.loop-unit.invariant (omega arith) name unit has (number, numeral, is)
