use Rattle.gptedit_core.proofs.Remade.{safe_reshaped}
use Rattle.gptedit_core.proofs.editing.edit_reshaped.Goals as goal

pub returns-clause-safe : goal.returns-clause-safe
returns-clause-safe g c = λ keeps was good. safe_reshaped c.args.reshaped.now c.args.sector_size was _ _ keeps good (c.change_table.ensures.leaves good.honest)
