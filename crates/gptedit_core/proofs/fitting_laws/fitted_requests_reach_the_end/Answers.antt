use Rattle.gptedit_core.proofs.Fitted.{reach_end}
use Rattle.gptedit_core.proofs.fitting_laws.fitted_requests_reach_the_end.Goals as goal

pub returns : goal.returns
returns c = record { reached = reach_end }
