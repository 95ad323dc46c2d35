use Rattle.gptedit_core.proofs.Reshaped.{nothing_kept}
use Rattle.gptedit_core.proofs.reshaping_laws.nothing_stated_is_kept.Goals as goal

pub returns : goal.returns
returns c = record { kept = nothing_kept }
