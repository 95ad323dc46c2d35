use Rattle.gptedit_core.proofs.Again.{layouts_stay}
use Rattle.gptedit_core.proofs.laws.layouts_again_change_nothing.Goals as goal

pub returns : goal.returns
returns c = layouts_stay
