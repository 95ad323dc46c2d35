use Rattle.gptedit_core.proofs.Reached.{growths_keep_first, growths_leave_ends, growths_reach_end}
use Rattle.gptedit_core.proofs.growth_laws.growths_follow_the_end.Goals as goal

pub returns : goal.returns
returns c = record { reached = growths_reach_end; left = growths_leave_ends; first = growths_keep_first }
