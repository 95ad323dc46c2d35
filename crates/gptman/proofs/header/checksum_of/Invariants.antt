use Rattle.std.proofs.Common.{take, flat_map}
use Rattle.gptman.specs.Coding.{entry_bytes}
use Rattle.gptman.specs.Register.{HasTaken}
use Rattle.gptman.proofs.header.checksum_of.Given as goal

abbrev pub invariant-loop-partition : goal.invariant-loop-partition
invariant-loop-partition l = HasTaken l.checksum (flat_map entry_bytes (take l.partition-index l.partitions))
