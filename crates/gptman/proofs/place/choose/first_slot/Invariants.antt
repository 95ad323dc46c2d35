use Rattle.std.proofs.Common.{take}
use Rattle.gptman.specs.Chosen.{AreShort}
use Rattle.gptman.proofs.place.choose.first_slot.Given as goal

abbrev pub invariant-loop-slot : goal.invariant-loop-slot
invariant-loop-slot l = AreShort l.size (take l.slot-index l.slots)
