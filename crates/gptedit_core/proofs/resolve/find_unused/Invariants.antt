use Rattle.std.proofs.Common.{◌≡◌}
use Rattle.gptman.specs.Entry.{is_unused}
use Rattle.gptedit_core.specs.Resolving.{first_numbered, lowest_unused}
use Rattle.gptedit_core.proofs.resolve.find_unused.Given as goal

abbrev pub invariant-loop-number : goal.invariant-loop-number
invariant-loop-number l =
    (goal.iterator-loop-number).can_next l.number-iterator
    × (goal.iterator-loop-number).is_finite l.number-iterator
    × (first_numbered is_unused l.number-iterator ≡ lowest_unused l.fn.table)
