use Rattle.gptedit_core.proofs.Planned.{written_keeps}
use Rattle.gptedit_core.proofs.editing.edit.Goals as goal

pub returns-clause-safe : goal.returns-clause-safe
returns-clause-safe g c = c.change_table.ensures.safe (written_keeps c.args.request.now (g.D.Disk.state c.args.disk.now).size)
