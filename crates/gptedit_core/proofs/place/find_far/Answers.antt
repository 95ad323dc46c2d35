use Rattle.std.proofs.Common.{◌≡◌, ◌≤◌, ◌<◌, ◌-◌, ◌∷◌, [], rules, arith, subst, List, ℕ, max}
use Rattle.gptman.specs.declared.codec.entry.GPTPartitionEntry.{GPTPartitionEntry}
use Rattle.gptman.specs.Table.{entries_in}
use Rattle.gptedit_core.proofs.Ends.{far_first, far_next, free_so_far, IsFarSoFar}
use Rattle.gptedit_core.proofs.place.find_far.Goals as goal
use Rattle.gptedit_core.proofs.place.find_far.Goals.{then-saturating_sub-last, else-saturating_sub-last}

pub loop-entry-init : goal.loop-entry-init
loop-entry-init c = (tt, tt, far_first _ _ _ _ (search rules) (search rules))

pub loop-entry-preserved : goal.loop-entry-preserved
loop-entry-preserved c =
    let step : c.loop-entry.entry-iterator ≡ (c.in-Some.field-0-0, c.in-Some.entry.now) ∷ c.next.new.self = search rules in (
      tt,
      tt,
      far_next (entries_in c.args.table.now) c.loop-entry.entry-iterator c.next.new.self (c.in-Some.field-0-0, c.in-Some.entry.now) c.args.last c.loop-entry.far c.far_before-far.result c.if-saturating_sub-last.far
          c.loop-entry.invariant.2 step c.far_before-far.ensures.low c.far_before-far.ensures.high c.far_before-far.ensures.free c.far_before-far.ensures.ends,
    )

pub returns-clause-free : goal.returns-clause-free
returns-clause-free c = λ x above within.
    let end : c.loop-entry.entry-iterator ≡ [] = search rules in
    let es = entries_in c.args.table.now in
    let h = c.args.table.now.header in
    let far = c.loop-entry.far in
    let at_first = c.if-saturating_sub-last.far in
    let so_far = subst (λ (rest : List (ℕ × GPTPartitionEntry)). IsFarSoFar es rest c.args.last far at_first) end c.loop-entry.invariant.2 in
    let guess : (c.args.last < at_first) → (h.first_usable_lba - 1 ≤ c.args.last) × (at_first ≡ max c.args.last h.last_usable_lba) =
    elim c.if-saturating_sub-last.branch [
      | then-saturating_sub-last w ↦ λ longer. (search rules, search rules)
      | else-saturating_sub-last w ↦ λ longer. absurd (omega (arith, longer))
    ] in
    free_so_far h es c.args.last far at_first x so_far guess above within
