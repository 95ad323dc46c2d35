use Rattle.std.proofs.Common.{◌≡◌, take}
use Rattle.gptman.specs.Register.{with_message}
use Rattle.gptman.proofs.crc.take_in_bytes.Given as goal

abbrev pub invariant-loop-byte : goal.invariant-loop-byte
invariant-loop-byte l = l.register ≡ with_message l.fn.register (take l.byte-index l.bytes)
