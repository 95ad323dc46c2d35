use Rattle.gptman_plan.proofs.Aligned.{read_aligned}
use Rattle.gptman_plan.proofs.reading.read_table.Goals as goal

pub returns-clause-align : goal.returns-clause-align
returns-clause-align c = read_aligned c.read_from.result c.read_from.ensures.value
