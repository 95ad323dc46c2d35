use Rattle.std.proofs.Common.{◌≡◌, drop}
use Rattle.gptedit_core.specs.Applying.{removed_all}
use Rattle.gptedit_core.proofs.applying.remove_all.Given as goal

abbrev pub invariant-loop-number : goal.invariant-loop-number
invariant-loop-number l =
    (removed_all (drop l.number-index l.numbers) l.table ≡ removed_all l.numbers l.fn.table)
    × (l.table.align ≡ l.fn.table.align)
