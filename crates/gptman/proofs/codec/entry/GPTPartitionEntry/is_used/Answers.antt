use Rattle.std.proofs.Common.{rules}
use Rattle.gptman.proofs.codec.entry.GPTPartitionEntry.is_used.Goals as goal

pub returns : goal.returns
returns c = search rules
