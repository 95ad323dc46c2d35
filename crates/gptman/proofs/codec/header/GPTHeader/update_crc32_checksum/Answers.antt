use Rattle.std.proofs.Common.{rules}
use Rattle.gptman.proofs.codec.header.GPTHeader.update_crc32_checksum.Goals as goal

pub returns : goal.returns
returns c = search rules
