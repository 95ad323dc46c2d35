use Rattle.std.proofs.Common.{◌≡◌, drop}
use Rattle.gptman.specs.declared.table.GPT.{GPT}
use Rattle.gptedit_core.specs.Applying.{ArePut, RefusesPutting}
use Rattle.gptedit_core.specs.Slots.{AreKept}
use Rattle.gptedit_core.specs.declared.refusal.Refusal.{Refusal}
use Rattle.gptedit_core.proofs.applying.put_all.Given as goal

abbrev pub invariant-loop-partition : goal.invariant-loop-partition
invariant-loop-partition l =
    ((final : GPT) → ArePut (drop l.partition-index l.partitions) l.table final → ArePut l.partitions l.fn.table final)
    × ((r : Refusal) → RefusesPutting (drop l.partition-index l.partitions) l.table r → RefusesPutting l.partitions l.fn.table r)
    × (l.table.align ≡ l.fn.table.align)
    × AreKept l.slots l.table
