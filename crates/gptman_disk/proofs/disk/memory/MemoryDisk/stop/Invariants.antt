use Rattle.std.proofs.Common.{◌≡◌, ◌≤◌, length, take}
use Rattle.gptman_disk.proofs.Stops.{StopsAt}
use Rattle.gptman_disk.proofs.disk.memory.MemoryDisk.stop.Given as goal

abbrev pub invariant-loop-event : goal.invariant-loop-event
invariant-loop-event l = record {
  so_far : StopsAt l.fn.self.start.items l.fates (take l.event-index l.event-items) l.view.items l.left.items l.next;
  few : l.next ≤ l.event-index;
  long_view : length l.view.items ≡ length l.fn.self.start.items;
  long_left : length l.left.items ≡ length l.fn.self.start.items;
}
