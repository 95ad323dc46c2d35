use Rattle.std.proofs.Common.{◌≡◌, take}
use Rattle.std.specs.List.{flat_map}
use Rattle.gptedit_core.specs.Sectors.{pairs_of}
use Rattle.gptedit_core.specs.Slots.{rest_of}
use Rattle.gptedit_core.proofs.slots.cut_all.Given as goal

abbrev pub invariant-loop-slot : goal.invariant-loop-slot
invariant-loop-slot l = pairs_of l.rest.items ≡ flat_map (rest_of l.align l.first l.last) (take l.slot-index (pairs_of l.slots.items))
