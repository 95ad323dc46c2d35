use Rattle.std.proofs.Common.{◌≡◌, ◌≤◌, ◌<◌, ◌-◌, ℕ, [], ◌∷◌, get_or}
use Rattle.gptman.specs.Disk.{IsHonest, Keeps, Writes}
use Rattle.gptedit_look.proofs.zeros.put_zeros.Given as goal

abbrev pub invariant-loop-at : goal.invariant-loop-at
invariant-loop-at g l = record {
  keeps : Keeps (g.D.Disk.state l.fn.disk) (g.D.Disk.state l.disk);
  from : l.fn.range.start ≤ l.at;
  wrote : Writes ((l.fn.range.start, l.fn.range.length) ∷ []) (g.D.Disk.state l.fn.disk) (g.D.Disk.state l.disk);
  zeros : IsHonest (g.D.Disk.state l.fn.disk) → (k : ℕ) → l.fn.range.start ≤ k → k < l.at → get_or (g.D.Disk.state l.disk).view k 0 ≡ 0;
}

abbrev pub decreases-loop-at : goal.decreases-loop-at
decreases-loop-at g l = l.end - l.at
