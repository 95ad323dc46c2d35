use Rattle.std.proofs.Common.{option_map, take}
use Rattle.gptman.proofs.Choice.{SoFar}
use Rattle.gptedit_core.specs.Sectors.{pair_of, pairs_of}
use Rattle.gptedit_core.specs.Slots.{IsNoWorse}
use Rattle.gptedit_core.proofs.slots.pick.Given as goal

abbrev pub invariant-loop-slot : goal.invariant-loop-slot
invariant-loop-slot l = SoFar (IsNoWorse l.choice) l.size (take l.slot-index (pairs_of l.slots)) (option_map pair_of l.found)
