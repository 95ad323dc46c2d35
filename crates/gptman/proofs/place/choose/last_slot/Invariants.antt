use Rattle.std.proofs.Common.{take}
use Rattle.std.specs.Prelude.{MatchOption}
use Rattle.gptman.specs.Chosen.{AreShort, IsBestSlot, IsNoEarlier}
use Rattle.gptman.proofs.place.choose.last_slot.Given as goal

abbrev pub invariant-loop-slot : goal.invariant-loop-slot
invariant-loop-slot l = MatchOption l.found (AreShort l.size (take l.slot-index l.slots)) (λ s. IsBestSlot IsNoEarlier l.size (take l.slot-index l.slots) s)
