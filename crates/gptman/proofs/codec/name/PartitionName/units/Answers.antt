use Rattle.std.proofs.Common.{rules}
use Rattle.gptman.proofs.codec.name.PartitionName.units.Goals as goal

pub returns : goal.returns
returns c = search rules
