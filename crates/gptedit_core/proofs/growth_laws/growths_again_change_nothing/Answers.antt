use Rattle.gptedit_core.proofs.Reached.{growths_stay}
use Rattle.gptedit_core.proofs.growth_laws.growths_again_change_nothing.Goals as goal

pub returns : goal.returns
returns c = growths_stay
