use Rattle.std.proofs.Common.{◌≡◌, ◌≤◌, ◌+◌, ◌^◌, length}
use Rattle.gptedit_core.specs.Renewing.{count_used, guids_in}
use Rattle.gptedit_core.proofs.renewing.count_guids.Given as goal

abbrev pub invariant-loop-entry : goal.invariant-loop-entry
invariant-loop-entry l =
    (goal.iterator-loop-entry).can_next l.entry-iterator
    × (goal.iterator-loop-entry).is_finite l.entry-iterator
    × (l.count + count_used l.entry-iterator ≡ guids_in l.fn.table)
    × (l.count + length l.entry-iterator ≤ 2 ^ 32)
