use Rattle.std.proofs.Common.{drop}
use Rattle.gptman.specs.Disk.{IsHonest, Keeps}
use Rattle.gptedit_look.specs.Wiped.{IsOfBeside, WritesOnly}
use Rattle.gptedit_look.proofs.Beside.{AreGone}
use Rattle.gptedit_look.proofs.clearing.clear_beside.Given as goal

abbrev pub invariant-loop-signature : goal.invariant-loop-signature
invariant-loop-signature g l = record {
  keeps : Keeps (g.D.Disk.state l.fn.disk) (g.D.Disk.state l.disk);
  only : WritesOnly (λ k. IsOfBeside l.primary l.backup l.sector_size k l.signatures) (g.D.Disk.state l.fn.disk) (g.D.Disk.state l.disk);
  gone : IsHonest (g.D.Disk.state l.fn.disk)
      → AreGone l.primary l.backup l.sector_size l.signatures (drop l.signature-index l.signatures) (g.D.Disk.state l.disk).view;
}
