use Rattle.std.proofs.Common.{◌≡◌}
use Rattle.gptedit_core.specs.Reshaping.{first_above, lowest_above}
use Rattle.gptedit_core.proofs.reshaping.find_above.Given as goal

abbrev pub invariant-loop-number : goal.invariant-loop-number
invariant-loop-number l =
    (goal.iterator-loop-number).can_next l.number-iterator
    × (goal.iterator-loop-number).is_finite l.number-iterator
    × (first_above l.fn.count l.number-iterator ≡ lowest_above l.fn.count l.fn.table)
