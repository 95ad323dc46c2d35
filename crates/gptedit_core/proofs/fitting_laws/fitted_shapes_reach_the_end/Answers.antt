use Rattle.gptedit_core.proofs.Refitted.{shapes_reach_end}
use Rattle.gptedit_core.proofs.fitting_laws.fitted_shapes_reach_the_end.Goals as goal

pub returns : goal.returns
returns c = record { reached = shapes_reach_end }
