use Rattle.gptedit_core.proofs.Safe.{safe_both}
use Rattle.gptedit_core.proofs.editing.edit_fitted_reshaped.Goals as goal

pub returns-clause-safe : goal.returns-clause-safe
returns-clause-safe g c = λ keeps was good. safe_both c.args.both.now c.args.sector_size was _ _ keeps good (c.change_table.ensures.leaves good.honest)
