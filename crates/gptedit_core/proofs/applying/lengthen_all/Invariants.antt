use Rattle.std.proofs.Common.{◌≡◌, drop}
use Rattle.gptman.specs.declared.table.GPT.{GPT}
use Rattle.gptedit_core.specs.Applying.{rest_numbers, AreExtended}
use Rattle.gptedit_core.proofs.applying.lengthen_all.Given as goal

abbrev pub invariant-loop-i : goal.invariant-loop-i
invariant-loop-i l =
    ((final : GPT) → AreExtended (rest_numbers (drop l.i l.fn.asked) (drop l.i l.fn.partitions)) l.table final
    → AreExtended (rest_numbers l.fn.asked l.fn.partitions) l.fn.table final)
    × (l.table.align ≡ l.fn.table.align)
