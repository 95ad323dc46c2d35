use Rattle.gptedit_core.proofs.Safe.{safe_growth}
use Rattle.gptedit_core.proofs.editing.grow.Goals as goal

pub returns-clause-safe : goal.returns-clause-safe
returns-clause-safe g c = λ was good. safe_growth c.args.growth.now c.args.sector_size was _ _ good (c.change_table.ensures.leaves good.honest)
