use Rattle.gptedit_core.proofs.Reached.{usual_bounds_reach_end}
use Rattle.gptedit_core.proofs.growth_laws.usual_bounds_reach_the_end.Goals as goal

pub returns : goal.returns
returns c = usual_bounds_reach_end
