use Rattle.std.proofs.Common.{take}
use Rattle.std.specs.Io.KnownBytes.{Appends}
use Rattle.gptimg_core.specs.Lines.{slot_lines}
use Rattle.gptimg_core.proofs.lines.print_slots.Given as goal

abbrev pub invariant-loop-slot : goal.invariant-loop-slot
invariant-loop-slot g l = Appends (g.W.Write.contents l.fn.out) (g.W.Write.contents l.out) (slot_lines (take l.slot-index l.slots))
