-- Rounds end, because no place is asked for twice.
use Rattle.std.proofs.Common.{◌≡◌, ◌≤◌, ◌+◌, ℕ, inl, inr, List, [], ◌∷◌, length, sym, ◌∙◌, subst, arith, length-append}
use Rattle.std.specs.Prelude.{Result, Ok, Err}
use Rattle.gptman.specs.Copy.{header_result}
use Rattle.gptman.specs.Fault.{Fault}
use Rattle.gptman.specs.Reading.{backup, copy_start}
use Rattle.gptman.specs.declared.codec.header.GPTHeader.{GPTHeader}
use Rattle.gptman_plan.specs.Ends.{IsKnown}
use Rattle.gptman_plan.specs.Rounds.{AreRounds, IsAmong, IsKnownInEach, Round, copy_ranges, entries_range, reading_ranges}

-- the places without the one that is this range
abbrev without : (range : ℕ × ℕ) (places : List (ℕ × ℕ)) → IsAmong range places → List (ℕ × ℕ)
without range [] none = absurd none
without range (place ∷ places) (inl is) = places
without range (place ∷ places) (inr later) = place ∷ without range places later

-- are one fewer,
length-without : (range : ℕ × ℕ) (places : List (ℕ × ℕ)) (is : IsAmong range places) → length places ≡ length (without range places is) + 1
length-without range [] none = absurd none
length-without range (place ∷ places) (inl is) = omega arith
length-without range (place ∷ places) (inr later) = omega (arith, length-without range places later)

-- and contain every other range.
still_among : (range other : ℕ × ℕ) (places : List (ℕ × ℕ)) (is : IsAmong range places) → IsAmong other places → (other ≡ range → ⊥) → IsAmong other (without range places is)
still_among range other [] none also differs = absurd none
still_among range other (place ∷ places) (inl is) (inl also) differs = absurd (differs (also ∙ sym is))
still_among range other (place ∷ places) (inl is) (inr also) differs = also
still_among range other (place ∷ places) (inr later) (inl also) differs = inl also
still_among range other (place ∷ places) (inr later) (inr also) differs = inr (still_among range other places later also differs)

-- Rounds whose ends have the range are rounds over these places,
rounds_without : (size : ℕ) (range : ℕ × ℕ) (places : List (ℕ × ℕ)) (is : IsAmong range places) (rounds : List Round) → IsKnownInEach size range rounds
    → AreRounds size places rounds → AreRounds size (without range places is) rounds
rounds_without size range places is [] known are = tt
rounds_without size range places is (round ∷ rounds) known are = (
  still_among range round.asked places is are.0 (λ same. are.1 (subst (λ (r : ℕ × ℕ). IsKnown round.head round.tail size r) (sym same) known.0)),
  are.1,
  are.2,
  rounds_without size range places is rounds known.1 are.3,
)

-- so there are at most as many rounds as places.
pub few_rounds : (size : ℕ) (places : List (ℕ × ℕ)) (rounds : List Round) → AreRounds size places rounds → length rounds ≤ length places
few_rounds size places [] are = omega arith
few_rounds size places (round ∷ rounds) are =
    let rest : List (ℕ × ℕ) = without round.asked places are.0 in
    let fewer : length rounds ≤ length rest = few_rounds size rest rounds (rounds_without size round.asked places are.0 rounds are.2 are.3) in
    omega (arith, fewer, length-without round.asked places are.0)

-- ---- the places of a read

few_entries : (ss : ℕ) (r : Result GPTHeader Fault) → length (entries_range ss r) ≤ 1
few_entries ss (Ok h) = omega arith
few_entries ss (Err fault) = omega arith

pub few_places : (b : List ℕ) (ss : ℕ) → length (reading_ranges b ss) ≤ 4
few_places b ss =
    let other : ℕ = copy_start backup (length b) ss in
    omega (
      arith,
      length-append (copy_ranges b ss ss) (copy_ranges b ss other),
      few_entries ss (header_result b ss),
      few_entries ss (header_result b other),
    )
