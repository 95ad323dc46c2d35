use Rattle.std.proofs.Common.{◌≡◌, length, map, take}
use Rattle.gptman_plan.specs.Crossing.{content_in, content_of}
use Rattle.gptman_plan.proofs.partitions.entries_of.Given as goal

abbrev pub invariant-loop-partition : goal.invariant-loop-partition
invariant-loop-partition l =
    (map content_in l.entries.items ≡ map content_of (take l.partition-index l.partitions))
    × (length l.entries.items ≡ l.partition-index)
