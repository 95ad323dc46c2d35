use Rattle.std.proofs.Common.{arith, subst, sym}
use Rattle.std.proofs.lemmas.List.{take_all, take_more}
use Rattle.gptman.specs.Chosen.{AreShort}
use Rattle.gptman.proofs.Choice.{first_taken, short_still}
use Rattle.gptman.proofs.place.choose.first_slot.Goals as goal

pub returns-then-slot-size : goal.returns-then-slot-size
returns-then-slot-size c =
    first_taken c.args.size c.args.slots.now c.loop-slot.slot-index c.requires c.loop-slot-test.true c.loop-slot.invariant c.if-slot-size.true

pub loop-slot-preserved : goal.loop-slot-preserved
loop-slot-preserved c =
    subst (AreShort c.args.size) (sym (take_more c.args.slots.now c.loop-slot.slot-index (0, 0) c.loop-slot-test.true))
    (short_still c.args.size _ _ c.loop-slot.invariant c.if-slot-size.false)

pub returns : goal.returns
returns c = subst (AreShort c.args.size) (take_all c.loop-slot.slot-index c.args.slots.now (omega arith)) c.loop-slot.invariant
