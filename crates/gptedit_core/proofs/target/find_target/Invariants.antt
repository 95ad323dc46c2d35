use Rattle.std.proofs.Common.{◌≡◌}
use Rattle.gptedit_core.specs.Targets.{is_selected}
use Rattle.gptedit_core.proofs.Targets.{outcome_from, outcome_in, IsSearch}
use Rattle.gptedit_core.proofs.target.find_target.Given as goal

abbrev pub invariant-loop-number : goal.invariant-loop-number
invariant-loop-number l =
    (goal.iterator-loop-number).can_next l.number-iterator
    × (goal.iterator-loop-number).is_finite l.number-iterator
    × IsSearch l.target
    × (outcome_from (is_selected l.target) l.found l.number-iterator ≡ outcome_in l.target l.fn.table)
