use Rattle.std.proofs.Common.{◌≡◌, ◌++◌}
use Rattle.gptman.specs.Copy.{entries_of}
use Rattle.gptman.proofs.header.read.decode_block.Given as goal

abbrev pub invariant-loop-k : goal.invariant-loop-k
invariant-loop-k l = l.partitions.items ≡ l.fn.partitions.items ++ entries_of l.bytes l.k
