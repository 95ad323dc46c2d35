use Rattle.std.proofs.Common.{rules}
use Rattle.gptman.proofs.codec.name.PartitionName.clone.Goals as goal

pub returns-clause-ok : goal.returns-clause-ok
returns-clause-ok c = search rules
