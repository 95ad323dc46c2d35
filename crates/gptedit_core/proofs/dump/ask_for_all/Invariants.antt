use Rattle.std.proofs.Common.{◌≡◌, List, ◌++◌}
use Rattle.std.specs.List.{enumerate_from}
use Rattle.gptman.specs.Table.{entries_in}
use Rattle.gptedit_core.specs.Dumping.{asked_of_all}
use Rattle.gptedit_core.specs.declared.asked.Asked.{Asked}
use Rattle.gptedit_core.proofs.dump.ask_for_all.Given as goal

abbrev pub invariant-loop-number : goal.invariant-loop-number
invariant-loop-number l =
    (goal.iterator-loop-number).can_next l.number-iterator
    × (goal.iterator-loop-number).is_finite l.number-iterator
    × ((rest : List Asked) → asked_of_all l.number-iterator ≡ rest → asked_of_all (enumerate_from 1 (entries_in l.fn.table)) ≡ l.asked.items ++ rest)
