use Rattle.std.proofs.Common.{◌≡◌, ◌≤◌, ◌+◌, ◌-◌, ◌*◌, ◌⊎◌, length, IsTrue}
use Rattle.gptman_disk.specs.Bytes.{part}
use Rattle.gptman.specs.Copy.{entries_of}
use Rattle.gptman_disk.specs.Disk.{Keeps, OnlyRead}
use Rattle.gptman.specs.Register.{HasTaken}
use Rattle.gptman.proofs.header.read.read_array.Given as goal

abbrev pub invariant-loop-done : goal.invariant-loop-done
invariant-loop-done g l = record {
  keeps : Keeps (g.D.Disk.state l.fn.disk) (g.D.Disk.state l.disk);
  counts : (g.D.Disk.state l.disk).failures ≡ (g.D.Disk.state l.fn.disk).failures;
  few : l.done ≤ l.count;
  position : (g.D.Disk.state l.disk).position ≡ (g.D.Disk.state l.fn.disk).position + 128 * l.done;
  within : (l.done ≡ 0) ⊎ ((g.D.Disk.state l.fn.disk).position + 128 * l.done ≤ (g.D.Disk.state l.fn.disk).size);
  long : length l.partitions.items ≡ l.done;
  reads : IsTrue (g.D.Disk.state l.fn.disk).is_honest → OnlyRead (g.D.Disk.state l.fn.disk) (g.D.Disk.state l.disk);
  entries : IsTrue (g.D.Disk.state l.fn.disk).is_honest
      → l.partitions.items ≡ entries_of (part (g.D.Disk.state l.fn.disk).view (g.D.Disk.state l.fn.disk).position (128 * l.done)) l.done;
  taken : IsTrue (g.D.Disk.state l.fn.disk).is_honest
      → HasTaken l.checksum (part (g.D.Disk.state l.fn.disk).view (g.D.Disk.state l.fn.disk).position (128 * l.done));
}

abbrev pub decreases-loop-done : goal.decreases-loop-done
decreases-loop-done g l = l.count - l.done
