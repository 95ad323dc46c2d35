use Rattle.gptman.specs.Table.{entries_in}
use Rattle.gptedit_core.proofs.Ends.{IsFarSoFar}
use Rattle.gptedit_core.proofs.place.find_far.Given as goal

abbrev pub invariant-loop-entry : goal.invariant-loop-entry
invariant-loop-entry l =
    (goal.iterator-loop-entry).can_next l.entry-iterator
    × (goal.iterator-loop-entry).is_finite l.entry-iterator
    × IsFarSoFar (entries_in l.fn.table) l.entry-iterator l.last l.far l.initial.far
