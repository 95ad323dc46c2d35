use Rattle.std.proofs.Common.{◌≡◌}
use Rattle.gptman.specs.Entry.{is_used}
use Rattle.gptedit_core.specs.Applying.{lowest_used}
use Rattle.gptedit_core.specs.Resolving.{first_numbered}
use Rattle.gptedit_core.proofs.applying.find_used.Given as goal

abbrev pub invariant-loop-number : goal.invariant-loop-number
invariant-loop-number l =
    (goal.iterator-loop-number).can_next l.number-iterator
    × (goal.iterator-loop-number).is_finite l.number-iterator
    × (first_numbered is_used l.number-iterator ≡ lowest_used l.fn.table)
