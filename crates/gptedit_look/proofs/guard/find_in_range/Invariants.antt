use Rattle.std.proofs.Common.{◌≤◌, ◌-◌, IsTrue}
use Rattle.gptman.specs.Disk.{Keeps, OnlyRead}
use Rattle.gptedit_look.specs.Guard.{AreFree}
use Rattle.gptedit_look.proofs.guard.find_in_range.Given as goal

abbrev pub invariant-loop-at : goal.invariant-loop-at
invariant-loop-at g l = record {
  keeps : Keeps (g.D.Disk.state l.fn.disk) (g.D.Disk.state l.disk);
  from : l.range.start ≤ l.at;
  reads : IsTrue (g.D.Disk.state l.fn.disk).is_honest → OnlyRead (g.D.Disk.state l.fn.disk) (g.D.Disk.state l.disk);
  free : IsTrue (g.D.Disk.state l.fn.disk).is_honest
      → AreFree l.grounds.look.now l.grounds.purpose l.grounds.next.now (g.D.Disk.state l.fn.disk).view l.range.start l.at;
}

abbrev pub decreases-loop-at : goal.decreases-loop-at
decreases-loop-at g l = l.range.end - l.at
