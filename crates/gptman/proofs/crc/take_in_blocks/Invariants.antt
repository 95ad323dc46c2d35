use Rattle.std.proofs.Common.{◌≡◌, take}
use Rattle.std.specs.Prelude.{fold}
use Rattle.gptman.specs.Register.{with_message}
use Rattle.gptman.proofs.crc.take_in_blocks.Given as goal

abbrev pub invariant-loop-block : goal.invariant-loop-block
invariant-loop-block l = l.register ≡ fold with_message l.fn.register (take l.block-index l.blocks)
