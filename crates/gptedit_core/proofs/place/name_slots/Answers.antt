use Rattle.std.proofs.Common.{◌≡◌, ◌∙◌, ◌+◌, List, ap, subst, sym, take}
use Rattle.gptedit_core.specs.Sectors.{pairs_of}
use Rattle.gptedit_core.specs.declared.sectors.Slot.{Slot}
use Rattle.gptedit_core.proofs.Pairs.{push_pair}
use Rattle.gptedit_core.proofs.place.name_slots.Goals as goal

pub loop-pair-preserved : goal.loop-pair-preserved
loop-pair-preserved c =
    let pairs = c.deref-pair-items.result.now in
    let same = c.deref-pair-items.ensures.value in
    let i = c.loop-pair.pair-index in
    subst (λ (l : List Slot). pairs_of l ≡ take (i + 1) c.args.pairs.now.items) (sym c.in_ok-push.ensures.items)
    (push_pair pairs c.loop-pair.slots.items i c.of-slot.result c.loop-pair-test.true (c.loop-pair.invariant ∙ ap (take i) (sym same)) c.of-slot.ensures.start c.of-slot.ensures.length
    ∙ ap (take (i + 1)) same)
