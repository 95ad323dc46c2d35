use Rattle.std.proofs.Common.{rules}
use Rattle.gptman.proofs.table.GPT.remove.Goals as goal

pub returns-clause-value : goal.returns-clause-value
returns-clause-value c = search rules
