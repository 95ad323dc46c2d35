use Rattle.gptman.specs.Disk.{Reads}
use Rattle.gptedit_look.proofs.salvage.reading.read_range.Given as goal

abbrev pub invariant-loop-piece : goal.invariant-loop-piece
invariant-loop-piece g l = Reads (g.D.Disk.state l.fn.disk) (g.D.Disk.state l.disk)
