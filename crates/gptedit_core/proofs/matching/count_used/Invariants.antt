use Rattle.std.proofs.Common.{◌≡◌, ◌≤◌, ◌+◌, length}
use Rattle.std.specs.List.{enumerate_from}
use Rattle.gptman.specs.Table.{entries_in}
use Rattle.gptedit_core.specs.Matching.{is_used_as}
use Rattle.gptedit_core.proofs.Matched.{counted}
use Rattle.gptedit_core.proofs.matching.count_used.Given as goal

abbrev pub invariant-loop-entry : goal.invariant-loop-entry
invariant-loop-entry l =
    (goal.iterator-loop-entry).can_next l.entry-iterator
    × (goal.iterator-loop-entry).is_finite l.entry-iterator
    × (counted (is_used_as l.name) l.count l.entry-iterator ≡ counted (is_used_as l.name) 0 (enumerate_from 1 (entries_in l.fn.table)))
    × (l.count + length l.entry-iterator ≤ length (entries_in l.fn.table))
