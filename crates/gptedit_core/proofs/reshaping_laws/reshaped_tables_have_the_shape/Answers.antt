use Rattle.gptedit_core.proofs.Reshaped.{have_shape, keep_entries}
use Rattle.gptedit_core.proofs.reshaping_laws.reshaped_tables_have_the_shape.Goals as goal

pub returns : goal.returns
returns c = record { shape = have_shape; entries = keep_entries }
