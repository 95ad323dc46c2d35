use Rattle.std.proofs.Common.{ℕ, List, Option}
use Rattle.std.specs.Io.KnownBytes.{Appends}
use Rattle.std.specs.List.{enumerate_from}
use Rattle.gptman.specs.Table.{entries_in}
use Rattle.gptimg_core.specs.Lines.{entry_lines}
use Rattle.gptimg_core.proofs.lines.print_entries.Given as goal

abbrev pub invariant-loop-number : goal.invariant-loop-number
invariant-loop-number g l =
    (goal.iterator-loop-number g).can_next l.number-iterator × (goal.iterator-loop-number g).is_finite l.number-iterator
    × ((new : Option (List ℕ)) → Appends (g.W.Write.contents l.out) new (entry_lines l.number-iterator)
    → Appends (g.W.Write.contents l.fn.out) new (entry_lines (enumerate_from 1 (entries_in l.fn.table))))
