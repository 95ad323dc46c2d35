use Rattle.std.proofs.Common.{◌≡◌, ◌+◌, ◌++◌, length, map, take}
use Rattle.gptman.specs.Table.{entries_in}
use Rattle.gptman_plan.specs.Crossing.{partition_of}
use Rattle.gptman_plan.proofs.partitions.fill.Given as goal

abbrev pub invariant-loop-entry : goal.invariant-loop-entry
invariant-loop-entry l =
    (goal.iterator-loop-entry).can_next l.entry-iterator × (goal.iterator-loop-entry).is_finite l.entry-iterator
    × (l.i + length l.entry-iterator ≡ length (entries_in l.table))
    × (take l.i l.partitions ++ map (λ p. partition_of p.1) l.entry-iterator ≡ map partition_of (entries_in l.table))
