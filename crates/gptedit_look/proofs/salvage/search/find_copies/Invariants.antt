use Rattle.gptman.specs.Disk.{Reads}
use Rattle.gptedit_look.proofs.salvage.search.find_copies.Given as goal

abbrev pub invariant-loop-sector_size : goal.invariant-loop-sector_size
invariant-loop-sector_size g l = Reads (g.D.Disk.state l.fn.disk) (g.D.Disk.state l.disk)

abbrev pub invariant-loop-sector_size-2 : goal.invariant-loop-sector_size-2
invariant-loop-sector_size-2 g l = Reads (g.D.Disk.state l.fn.disk) (g.D.Disk.state l.disk)
