use Rattle.std.proofs.Common.{rules}
use Rattle.gptman.proofs.codec.name.PartitionNameDisplay.fmt.Goals as goal

pub returns-clause-writes : goal.returns-clause-writes
returns-clause-writes g c = search rules
