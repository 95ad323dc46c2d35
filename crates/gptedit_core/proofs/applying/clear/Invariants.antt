use Rattle.std.proofs.Common.{◌≡◌, drop}
use Rattle.gptedit_core.specs.Applying.{cleared}
use Rattle.gptedit_core.proofs.applying.clear.Given as goal

abbrev pub invariant-loop-partition : goal.invariant-loop-partition
invariant-loop-partition l =
    (cleared (drop l.partition-index l.partitions) l.table ≡ cleared l.partitions l.fn.table)
    × (l.table.align ≡ l.fn.table.align)
