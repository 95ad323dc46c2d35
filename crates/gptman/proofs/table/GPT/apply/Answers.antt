use Rattle.std.proofs.Common.{rules}
use Rattle.gptman.proofs.table.GPT.apply.Goals as goal

pub returns-in-DiskGuid-clause-value : goal.returns-in-DiskGuid-clause-value
returns-in-DiskGuid-clause-value c = search rules
