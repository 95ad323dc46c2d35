use Rattle.std.proofs.Common.{ℕ, List, subst, sym}
use Rattle.gptman.specs.Place.{AreSlots, IsFreeIn}
use Rattle.gptman.proofs.Places.{max_is, no_slot}
use Rattle.gptman.proofs.table.GPT.get_maximum_partition_size.Goals as goal

pub returns-in-Some-clause-value : goal.returns-in-Some-clause-value
returns-in-Some-clause-value c =
    max_is (IsFreeIn c.args.self.now) c.args.self.now.align c.in-Some.size c.deref.result.now
    (subst (λ (l : List (ℕ × ℕ)). AreSlots (IsFreeIn c.args.self.now) c.args.self.now.align l) (sym c.deref.ensures.value) c.in_ok-slots.ensures.value) c.in-Some.ensures

pub returns-clause-full : goal.returns-clause-full
returns-clause-full c = λ _.
    no_slot (IsFreeIn c.args.self.now) c.args.self.now.align c.deref.result.now
    (subst (λ (l : List (ℕ × ℕ)). AreSlots (IsFreeIn c.args.self.now) c.args.self.now.align l) (sym c.deref.ensures.value) c.in_ok-slots.ensures.value) c.in-None.ensures
