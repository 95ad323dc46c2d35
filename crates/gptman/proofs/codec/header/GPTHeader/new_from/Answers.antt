use Rattle.std.proofs.Common.{rules}
use Rattle.gptman.proofs.codec.header.GPTHeader.new_from.Goals as goal

pub returns-clause-value : goal.returns-clause-value
returns-clause-value g c = search rules
