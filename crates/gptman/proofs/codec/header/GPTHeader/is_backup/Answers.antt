use Rattle.std.proofs.Common.{rules}
use Rattle.gptman.proofs.codec.header.GPTHeader.is_backup.Goals as goal

pub returns : goal.returns
returns c = search rules
