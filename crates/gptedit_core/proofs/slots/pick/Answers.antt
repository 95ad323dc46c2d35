use Rattle.std.proofs.Common.{◌+◌, Option, option_map, subst, sym, take}
use Rattle.gptman.proofs.Choice.{SoFar}
use Rattle.gptedit_core.specs.Sectors.{pair_of, pairs_of}
use Rattle.gptedit_core.specs.Slots.{IsNoWorse}
use Rattle.gptedit_core.specs.declared.sectors.Slot.{Slot}
use Rattle.gptedit_core.proofs.Offered.{pick_kept, pick_taken}
use Rattle.gptedit_core.proofs.slots.pick.Goals as goal
use Rattle.gptedit_core.proofs.slots.pick.Goals.{then-is_taken, else-is_taken}

pub loop-slot-preserved : goal.loop-slot-preserved
loop-slot-preserved c =
    let choice = c.args.choice in
    let n = c.args.size in
    let slots = c.args.slots.now in
    let i = c.loop-slot.slot-index in
    let slot = c.slot-item.result in
    elim c.if-is_taken.branch [
      | then-is_taken w ↦
          subst (λ (o : Option Slot). SoFar (IsNoWorse choice) n (take (i + 1) (pairs_of slots)) (option_map pair_of o)) (sym w.found-is)
          (pick_taken choice n slots i slot c.loop-slot-test.true c.slot-item.is c.loop-slot.found c.loop-slot.invariant w.if-is_taken.ensures.0 w.if-is_taken.ensures.1)
      | else-is_taken w ↦
          subst (λ (o : Option Slot). SoFar (IsNoWorse choice) n (take (i + 1) (pairs_of slots)) (option_map pair_of o)) (sym w.found-is)
          (pick_kept choice n slots i slot c.loop-slot-test.true c.slot-item.is c.loop-slot.found c.loop-slot.invariant w.if-is_taken.ensures)
    ]
