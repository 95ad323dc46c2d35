use Rattle.std.proofs.Common.{◌≡◌, ◌+◌, length, count_by, ◌≤◌}
use Rattle.gptman.specs.Entry.{is_used}
use Rattle.gptman.specs.Table.{entries_in}
use Rattle.gptman_bench.proofs.callers.count_used.Given as goal

abbrev pub invariant-loop-entry : goal.invariant-loop-entry
invariant-loop-entry l =
    (goal.iterator-loop-entry).can_next l.entry-iterator × (goal.iterator-loop-entry).is_finite l.entry-iterator
    × (l.count + length l.entry-iterator ≤ length (entries_in l.table))
    × (l.count + count_by (λ p. is_used p.1) l.entry-iterator ≡ count_by is_used (entries_in l.table))
