use Rattle.std.proofs.Common.{rules}
use Rattle.gptman.proofs.codec.header.GPTHeader.other.Goals as goal

pub returns : goal.returns
returns c = search rules
