use Rattle.std.proofs.Common.{◌≡◌, ◌*◌, length, take, flat_map}
use Rattle.byteorder.specs.Endian.{little_bytes}
use Rattle.gptman.proofs.codec.entry.bytes_of.Given as goal

abbrev pub invariant-loop-k : goal.invariant-loop-k
invariant-loop-k l = (take (2 * l.k) l.bytes ≡ flat_map (little_bytes 2) (take l.k l.units)) × (length l.bytes ≡ 72)
