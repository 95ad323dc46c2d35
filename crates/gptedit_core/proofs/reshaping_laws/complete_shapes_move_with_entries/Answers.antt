use Rattle.gptedit_core.proofs.Completed.{move_with_entries}
use Rattle.gptedit_core.proofs.reshaping_laws.complete_shapes_move_with_entries.Goals as goal

pub returns : goal.returns
returns c = record { moved = move_with_entries }
