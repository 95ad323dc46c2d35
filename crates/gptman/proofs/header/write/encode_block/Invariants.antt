use Rattle.std.proofs.Common.{◌≡◌, ◌*◌, All, take}
use Rattle.gptman.specs.Coding.{FitsEntry, array_bytes}
use Rattle.gptman.proofs.header.write.encode_block.Given as goal

abbrev pub invariant-loop-k : goal.invariant-loop-k
invariant-loop-k l = record {
  bytes : take (128 * l.k) l.bytes ≡ array_bytes (take l.k l.block);
  fits : All FitsEntry (take l.k l.block);
}
