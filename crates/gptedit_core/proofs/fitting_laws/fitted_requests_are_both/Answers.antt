use Rattle.gptedit_core.proofs.Fitted.{add_nothing, are_both}
use Rattle.gptedit_core.proofs.fitting_laws.fitted_requests_are_both.Goals as goal

pub returns : goal.returns
returns c = record { both = are_both; alone = add_nothing }
