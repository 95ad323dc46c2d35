use Rattle.gptedit_core.proofs.Taken.{not_refused}
use Rattle.gptedit_core.proofs.laws.layouts_of_tables_are_taken.Goals as goal

pub returns : goal.returns
returns c = not_refused
