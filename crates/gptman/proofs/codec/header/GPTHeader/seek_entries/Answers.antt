use Rattle.std.proofs.Common.{rules}
use Rattle.gptman.proofs.codec.header.GPTHeader.seek_entries.Goals as goal

pub returns-clause-past_end : goal.returns-clause-past_end
returns-clause-past_end g c = search rules
