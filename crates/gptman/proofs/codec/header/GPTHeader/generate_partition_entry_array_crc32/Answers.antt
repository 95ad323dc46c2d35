use Rattle.std.proofs.Common.{rules}
use Rattle.gptman.proofs.codec.header.GPTHeader.generate_partition_entry_array_crc32.Goals as goal

pub returns : goal.returns
returns c = search rules
