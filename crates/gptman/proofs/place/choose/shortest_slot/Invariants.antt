use Rattle.std.proofs.Common.{take}
use Rattle.std.specs.Prelude.{MatchOption}
use Rattle.gptman.specs.Chosen.{AreShort, IsBestSlot, IsTighter}
use Rattle.gptman.proofs.place.choose.shortest_slot.Given as goal

abbrev pub invariant-loop-slot : goal.invariant-loop-slot
invariant-loop-slot l = MatchOption l.shortest (AreShort l.size (take l.slot-index l.slots)) (λ s. IsBestSlot IsTighter l.size (take l.slot-index l.slots) s)
