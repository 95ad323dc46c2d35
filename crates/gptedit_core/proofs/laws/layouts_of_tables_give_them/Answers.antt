use Rattle.gptedit_core.proofs.Dumped.{give_table}
use Rattle.gptedit_core.proofs.laws.layouts_of_tables_give_them.Goals as goal

pub returns : goal.returns
returns c = give_table
