use Rattle.gptedit_core.proofs.Repeated.{taken_twice}
use Rattle.gptedit_core.proofs.laws.layouts_again_are_taken.Goals as goal

pub returns : goal.returns
returns c = taken_twice
