use Rattle.std.proofs.Common.{rules}
use Rattle.gptman.proofs.codec.entry.GPTPartitionEntry.size.Goals as goal

pub returns-in-Some-checked_add : goal.returns-in-Some-checked_add
returns-in-Some-checked_add c = search rules
