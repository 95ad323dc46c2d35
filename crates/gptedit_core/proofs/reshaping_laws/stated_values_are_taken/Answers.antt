use Rattle.gptedit_core.proofs.Completed.{stated_taken}
use Rattle.gptedit_core.proofs.reshaping_laws.stated_values_are_taken.Goals as goal

pub returns : goal.returns
returns c = record { taken = stated_taken }
