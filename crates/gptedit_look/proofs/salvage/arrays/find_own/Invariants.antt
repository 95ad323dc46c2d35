use Rattle.gptman.specs.Disk.{Reads}
use Rattle.gptedit_look.proofs.salvage.arrays.find_own.Given as goal

abbrev pub invariant-loop-span : goal.invariant-loop-span
invariant-loop-span g l = Reads (g.D.Disk.state l.fn.disk) (g.D.Disk.state l.disk)
