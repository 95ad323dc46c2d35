use Rattle.gptedit_core.proofs.Reshaped.{reshaped_add_nothing}
use Rattle.gptedit_core.proofs.reshaping_laws.reshaped_requests_add_nothing.Goals as goal

pub returns : goal.returns
returns c = record { alone = reshaped_add_nothing }
