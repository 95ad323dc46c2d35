use Rattle.std.proofs.Common.{◌≡◌, ◌++◌}
use Rattle.std.specs.Prelude.{if◌then◌else◌}
use Rattle.gptman.specs.Entry.{is_unused, is_used}
use Rattle.gptedit_core.specs.Matching.{free_at_first, numbers_of}
use Rattle.gptedit_core.proofs.matching.free_numbers.Given as goal

abbrev pub invariant-loop-number : goal.invariant-loop-number
invariant-loop-number l =
    (goal.iterator-loop-number).can_next l.number-iterator
    × (goal.iterator-loop-number).is_finite l.number-iterator
    × (l.numbers.items ++ numbers_of (if l.used then is_used else is_unused) l.asked l.number-iterator ≡ free_at_first (if l.used then is_used else is_unused) l.fn.table l.asked)
