use Rattle.std.proofs.Common.{◌≡◌, ◌≤◌, ◌+◌, ◌-◌, ◌*◌, [], ◌∷◌, All, length, take, IsTrue}
use Rattle.gptman.specs.Coding.{FitsEntry, array_bytes}
use Rattle.gptman_disk.specs.Disk.{Keeps, StaysPending, Wrote, overlay}
use Rattle.gptman.proofs.header.write.write_entries.Given as goal

abbrev pub invariant-loop-done : goal.invariant-loop-done
invariant-loop-done g l = record {
  within : l.done ≤ length l.partitions;
  keeps : Keeps (g.D.Disk.state l.fn.disk) (g.D.Disk.state l.disk);
  counts : (g.D.Disk.state l.disk).failures ≡ (g.D.Disk.state l.fn.disk).failures;
  position : (g.D.Disk.state l.disk).position ≡ (g.D.Disk.state l.fn.disk).position + 128 * l.done;
  fits : All FitsEntry (take l.done l.partitions);
  wrote : IsTrue (g.D.Disk.state l.fn.disk).is_honest → Wrote (((g.D.Disk.state l.fn.disk).position, 128 * length l.partitions) ∷ []) (g.D.Disk.state l.fn.disk) (g.D.Disk.state l.disk);
  contents : IsTrue (g.D.Disk.state l.fn.disk).is_honest
      → (g.D.Disk.state l.disk).view ≡ overlay (g.D.Disk.state l.fn.disk).view (g.D.Disk.state l.fn.disk).position (array_bytes (take l.done l.partitions));
  still_pending : IsTrue (g.D.Disk.state l.fn.disk).is_honest → StaysPending (g.D.Disk.state l.fn.disk) (g.D.Disk.state l.disk);
}

abbrev pub decreases-loop-done : goal.decreases-loop-done
decreases-loop-done g l = length l.partitions - l.done
