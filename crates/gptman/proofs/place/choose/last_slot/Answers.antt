use Rattle.std.proofs.Common.{◌+◌, subst, sym, take}
use Rattle.gptman.specs.Chosen.{IsNoEarlier}
use Rattle.gptman.proofs.Choice.{SoFar, last_taken, last_kept}
use Rattle.gptman.proofs.place.choose.last_slot.Goals as goal
use Rattle.gptman.proofs.place.choose.last_slot.Goals.{then-slot-size, else-slot-size}

pub loop-slot-preserved : goal.loop-slot-preserved
loop-slot-preserved c = elim c.if-slot-size.branch [
  | then-slot-size w ↦ subst (SoFar IsNoEarlier c.args.size (take (c.loop-slot.slot-index + 1) c.args.slots.now)) (sym w.found-is)
      (last_taken c.args.size c.args.slots.now c.loop-slot.slot-index c.requires c.loop-slot-test.true w.if-slot-size.true)
  | else-slot-size w ↦ subst (SoFar IsNoEarlier c.args.size (take (c.loop-slot.slot-index + 1) c.args.slots.now)) (sym w.found-is)
      (last_kept c.args.size c.args.slots.now c.loop-slot.slot-index c.loop-slot.found c.loop-slot-test.true c.loop-slot.invariant w.if-slot-size.false)
]
