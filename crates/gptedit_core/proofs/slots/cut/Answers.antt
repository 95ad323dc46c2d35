use Rattle.std.proofs.Common.{◌≡◌, ◌<◌, List, ℕ, get_or, length, subst, arith}
use Rattle.std.specs.Prelude.{IfOk}
use Rattle.std.proofs.lemmas.List.{length-map}
use Rattle.gptedit_core.specs.Sectors.{pair_of, pairs_of}
use Rattle.gptedit_core.specs.Slots.{HasSpan}
use Rattle.gptedit_core.specs.declared.sectors.Slot.{Slot}
use Rattle.gptedit_core.proofs.Cuts.{cut_within, slots_apart}
use Rattle.gptedit_core.proofs.Offered.{all_multiples}
use Rattle.gptedit_core.proofs.Pairs.{all_some}
use Rattle.gptman.specs.Place.{IsFreeIn}
use Rattle.gptedit_core.proofs.slots.cut.Goals as goal

pub returns-in-Some : goal.returns-in-Some
returns-in-Some c =
    let align = c.args.align in
    let slots = c.args.slots.items in
    let pairs = pairs_of slots in
    let i = c.in-Some.i in
    let g = c.requires.kept.0 in
    let are = c.requires.kept.1 in
    let at : (i < length slots) × HasSpan c.args.first c.args.last (get_or pairs i (0, 0)) =
    subst (λ (l : List Slot). (i < length l) × HasSpan c.args.first c.args.last (get_or (pairs_of l) i (0, 0))) c.deref.ensures.value c.in-Some.ensures in
    subst (λ (l : List (ℕ × ℕ)). IfOk c.cut_at.result (λ v. pairs_of v.items ≡ l))
    (cut_within align c.args.first c.args.last pairs i c.requires.aligned c.requires.ordered (all_some slots) (all_multiples g align pairs are) (slots_apart (IsFreeIn g) align pairs are)
    (omega (arith, at.0, length-map slots pair_of)) at.1)
    c.cut_at.ensures
