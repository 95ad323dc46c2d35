use Rattle.gptman.proofs.Equal.{table_decides}
use Rattle.gptedit_core.proofs.plan.is_same.Goals as goal

pub returns : goal.returns
returns c = rw c.eq.ensures (table_decides c.args.was.now c.args.next.now)
