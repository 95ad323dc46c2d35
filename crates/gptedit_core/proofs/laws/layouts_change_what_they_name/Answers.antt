use Rattle.gptedit_core.proofs.Stayed.{change_named}
use Rattle.gptedit_core.proofs.laws.layouts_change_what_they_name.Goals as goal

pub returns : goal.returns
returns c = change_named
