use Rattle.gptedit_core.proofs.Completed.{leave_room}
use Rattle.gptedit_core.proofs.reshaping_laws.complete_shapes_leave_room.Goals as goal

pub returns : goal.returns
returns c = record { room = leave_room }
