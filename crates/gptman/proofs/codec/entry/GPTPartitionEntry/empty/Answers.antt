use Rattle.std.proofs.Common.{rules}
use Rattle.gptman.proofs.codec.entry.GPTPartitionEntry.empty.Goals as goal

pub returns : goal.returns
returns c = search rules
