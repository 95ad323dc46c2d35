use Rattle.std.proofs.Common.{arith}
use Rattle.std.proofs.lemmas.Grind.{common_steps}
use Rattle.gptman.proofs.codec.header.GPTHeader.generate_crc32_checksum.Goals as goal

pub returns : goal.returns
returns c = grind (arith, common_steps)
