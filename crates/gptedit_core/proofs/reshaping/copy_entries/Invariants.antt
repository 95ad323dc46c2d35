use Rattle.std.proofs.Common.{◌≡◌, ℕ, ◌++◌, map}
use Rattle.gptman.specs.Table.{entries_in}
use Rattle.gptman.specs.declared.codec.entry.GPTPartitionEntry.{GPTPartitionEntry}
use Rattle.gptedit_core.proofs.reshaping.copy_entries.Given as goal

abbrev pub invariant-loop-entry : goal.invariant-loop-entry
invariant-loop-entry l =
    (goal.iterator-loop-entry).can_next l.entry-iterator
    × (goal.iterator-loop-entry).is_finite l.entry-iterator
    × (l.entries.items ++ map (λ (p : ℕ × GPTPartitionEntry). p.1) l.entry-iterator ≡ entries_in l.fn.table)
