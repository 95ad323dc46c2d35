use Rattle.std.proofs.Common.{◌≡◌, ◌<◌, List, arith, get_or, length, subst}
use Rattle.std.proofs.lemmas.Grind.{common_steps}
use Rattle.gptedit_core.specs.declared.sectors.Slot.{Slot}
use Rattle.gptedit_core.proofs.Cuts.{push_rest}
use Rattle.gptedit_core.proofs.slots.cut_all.Goals as goal

pub loop-slot-preserved : goal.loop-slot-preserved
loop-slot-preserved c =
    let i = c.loop-slot.slot-index in
    let slot = c.slot-item.result in
    let same = c.deref-slot-items.ensures.value in
    push_rest c.args.align c.args.first c.args.last c.args.slots.now.items i slot c.before-in-loop-slot.result c.behind.result c.loop-slot.rest.items
    c.push_some-in-loop-slot.new.slots.items (subst (λ (l : List Slot). i < length l) same c.loop-slot-test.true) (subst (λ (l : List Slot). slot ≡ get_or l i slot) same c.slot-item.is)
    c.before-in-loop-slot.ensures c.behind.ensures c.loop-slot.invariant (grind (arith, common_steps))
