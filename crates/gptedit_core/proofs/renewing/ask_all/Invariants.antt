use Rattle.std.proofs.Common.{◌≡◌, ◌≤◌, ◌+◌, List, ◌++◌, length}
use Rattle.std.specs.List.{enumerate_from}
use Rattle.gptman.specs.Table.{entries_in}
use Rattle.gptedit_core.specs.Renewing.{all_anew, count_used}
use Rattle.gptedit_core.specs.declared.asked.Asked.{Asked}
use Rattle.gptedit_core.proofs.renewing.ask_all.Given as goal

abbrev pub invariant-loop-number : goal.invariant-loop-number
invariant-loop-number l =
    (goal.iterator-loop-number).can_next l.number-iterator
    × (goal.iterator-loop-number).is_finite l.number-iterator
    × (length l.asked.items + 1 + count_used l.number-iterator ≤ length l.guids)
    × ((rest : List Asked) → all_anew l.extended l.guids (length l.asked.items + 1) l.number-iterator ≡ rest
    → all_anew l.extended l.guids 1 (enumerate_from 1 (entries_in l.fn.table)) ≡ l.asked.items ++ rest)
