use Rattle.std.proofs.Common.{rules}
use Rattle.gptman.proofs.table.GPT.remove_at_sector.Goals as goal

pub returns-in-Some-clause-answer : goal.returns-in-Some-clause-answer
returns-in-Some-clause-answer c = search rules

pub returns-in-Some-clause-value : goal.returns-in-Some-clause-value
returns-in-Some-clause-value c = search rules
