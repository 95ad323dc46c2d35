use Rattle.gptedit_core.proofs.Safe.{growths_keep_primary}
use Rattle.gptedit_core.proofs.growth_laws.growths_keep_the_primary_copy.Goals as goal

pub returns : goal.returns
returns g c = growths_keep_primary _
