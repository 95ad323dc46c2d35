use Rattle.std.proofs.Common.{◌≡◌, take}
use Rattle.gptedit_core.specs.Sectors.{pairs_of}
use Rattle.gptedit_core.proofs.place.name_slots.Given as goal

abbrev pub invariant-loop-pair : goal.invariant-loop-pair
invariant-loop-pair l = pairs_of l.slots.items ≡ take l.pair-index l.pairs.items
