use Rattle.gptedit_core.proofs.Fitted.{fitting_keeps}
use Rattle.gptedit_core.proofs.fitting_laws.fitting_keeps_the_entries.Goals as goal

pub returns : goal.returns
returns c = record { kept = fitting_keeps }
