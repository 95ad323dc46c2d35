use Rattle.std.proofs.Common.{drop}
use Rattle.gptman.specs.Disk.{IsHonest, Keeps, Writes}
use Rattle.gptedit_look.specs.Wiped.{ranges_in}
use Rattle.gptedit_look.proofs.Clears.{AreSet}
use Rattle.gptedit_look.proofs.clearing.clear_all.Given as goal

abbrev pub invariant-loop-range : goal.invariant-loop-range
invariant-loop-range g l = record {
  keeps : Keeps (g.D.Disk.state l.fn.disk) (g.D.Disk.state l.disk);
  wrote : Writes (ranges_in l.ranges) (g.D.Disk.state l.fn.disk) (g.D.Disk.state l.disk);
  set : IsHonest (g.D.Disk.state l.fn.disk) → AreSet l.ranges (drop l.range-index l.ranges) (g.D.Disk.state l.disk).view;
}
