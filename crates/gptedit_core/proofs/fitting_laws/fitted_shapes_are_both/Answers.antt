use Rattle.gptedit_core.proofs.Refitted.{shapes_add_nothing, shapes_are_both}
use Rattle.gptedit_core.proofs.fitting_laws.fitted_shapes_are_both.Goals as goal

pub returns : goal.returns
returns c = record { both = shapes_are_both; alone = shapes_add_nothing }
