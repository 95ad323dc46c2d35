use Rattle.std.proofs.Common.{◌+◌, subst, sym, take}
use Rattle.gptman.specs.Chosen.{IsTighter}
use Rattle.gptman.proofs.Choice.{SoFar, best_taken, best_kept}
use Rattle.gptman.proofs.place.choose.shortest_slot.Goals as goal
use Rattle.gptman.proofs.place.choose.shortest_slot.Goals.{then-is_shorter, else-is_shorter}

pub loop-slot-preserved : goal.loop-slot-preserved
loop-slot-preserved c = elim c.if-is_shorter.branch [
  | then-is_shorter w ↦ subst (SoFar IsTighter c.args.size (take (c.loop-slot.slot-index + 1) c.args.slots.now)) (sym w.shortest-is)
      (best_taken c.args.size c.args.slots.now c.loop-slot.slot-index c.loop-slot.shortest c.loop-slot-test.true c.loop-slot.invariant w.if-is_shorter.ensures.0 w.if-is_shorter.ensures.1)
  | else-is_shorter w ↦ subst (SoFar IsTighter c.args.size (take (c.loop-slot.slot-index + 1) c.args.slots.now)) (sym w.shortest-is)
      (best_kept c.args.size c.args.slots.now c.loop-slot.slot-index c.loop-slot.shortest c.requires c.loop-slot-test.true c.loop-slot.invariant w.if-is_shorter.ensures)
]
