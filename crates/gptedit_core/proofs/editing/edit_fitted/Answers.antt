use Rattle.gptedit_core.proofs.Safe.{safe_fitted}
use Rattle.gptedit_core.proofs.editing.edit_fitted.Goals as goal

pub returns-clause-safe : goal.returns-clause-safe
returns-clause-safe g c = λ was good. safe_fitted c.args.fitted.now c.args.sector_size was _ _ good (c.change_table.ensures.leaves good.honest)
