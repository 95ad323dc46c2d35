use Rattle.std.proofs.Common.{rules}
use Rattle.gptman.proofs.codec.entry.GPTPartitionEntry.range.Goals as goal

pub returns : goal.returns
returns c = search rules
