-- The places that the searches return, from the slot that they choose.
use Rattle.std.proofs.Common.{◌≡◌, ℕ, ◌+◌, ◌-◌, ◌*◌, ◌/◌, ◌%◌, ◌^◌, ◌<◌, ◌≤◌, max, List, sym, subst, arith}
use Rattle.std.specs.List.{All}
use Rattle.std.proofs.lemmas.List.Elements.{All-contains}
use Rattle.gptman.specs.Chosen.{AreShort, IsBestSlot, IsNoLater, IsNoEarlier, IsTighter}
use Rattle.gptman.specs.Place.{AreSlots, HasNoPlace, IsBestPlace, IsFirstPlace, IsFreeIn, IsLastPlace}
use Rattle.gptman.specs.Table.{entries_in}
use Rattle.gptman.specs.declared.table.GPT.{GPT}
use Rattle.gptman.proofs.FreeSectors.{free_settled}
use Rattle.gptman.proofs.Places.{best_is, first_is, last_is, no_place, IsSettled}

-- The slots of the value, in which a place for n sectors is searched for this size.
pub record IsAsked (g : GPT) (size n : ℕ) (slots : List (ℕ × ℕ)) : Type 0 where
  pub positive : 0 < g.align
  pub is : n ≡ max 1 size
  pub found : AreSlots (IsFreeIn g) g.align slots
  pub fits : All (λ s. s.0 + s.1 ≤ 2 ^ 64) slots

-- From the list that was found.
pub asked : (g : GPT) (size n : ℕ) (slots items : List (ℕ × ℕ)) → 0 < g.align → n ≡ max 1 size → slots ≡ items → AreSlots (IsFreeIn g) g.align items
    → All (λ s. s.0 + s.1 ≤ 2 ^ 64) items → IsAsked g size n slots
asked g size n slots items positive is same are fits = record {
  positive = positive;
  is = is;
  found = subst (λ (l : List (ℕ × ℕ)). AreSlots (IsFreeIn g) g.align l) (sym same) are;
  fits = subst (λ (l : List (ℕ × ℕ)). All (λ s. s.0 + s.1 ≤ 2 ^ 64) l) (sym same) fits;
}

pub none_offered : (g : GPT) (size n : ℕ) (slots : List (ℕ × ℕ)) → IsAsked g size n slots → AreShort n slots → HasNoPlace (IsFreeIn g) g.align (max 1 size)
none_offered g size n slots a short =
    let is = a.is in
    subst (λ (n : ℕ). HasNoPlace (IsFreeIn g) g.align n) a.is
    (no_place (IsFreeIn g) g.align n slots (free_settled g.header (entries_in g)) a.positive (omega arith) a.found short)

-- From a slot that is better than the others, a choice returns such a place within the slot.
pub record Chooses (better : ℕ × ℕ → ℕ × ℕ → Type 0) (start : ℕ → ℕ → ℕ × ℕ → ℕ) (IsSuch : (ℕ → Type 0) → ℕ → ℕ → ℕ → Type 0) : Type 1 where
  pub found : (F : ℕ → Type 0) (align n : ℕ) (slots : List (ℕ × ℕ)) (s : ℕ × ℕ) → IsSettled F → 0 < align → 1 ≤ n → AreSlots F align slots
      → IsBestSlot better n slots s → IsSuch F align n (start align n s)
  pub within : (align n : ℕ) (s : ℕ × ℕ) → 0 < align → n ≤ s.1 → start align n s + n ≤ s.0 + s.1

pub first : Chooses IsNoLater (λ align n s. s.0) IsFirstPlace
first = record { found = first_is; within = λ align n s positive fits. omega arith }

pub last : Chooses IsNoEarlier (λ align n s. s.0 + (s.1 - n) / align * align) IsLastPlace
last = record {
  found = last_is;
  within = λ align n s positive fits.
      let whole : (s.1 - n) / align * align + (s.1 - n) % align ≡ s.1 - n = omega arith in
      omega arith;
}

pub best : Chooses IsTighter (λ align n s. s.0) IsBestPlace
best = record {
  found = λ F align n slots s settled positive some are chosen. best_is F align n slots s are chosen;
  within = λ align n s positive fits. omega arith;
}

-- The place in the chosen slot.
pub offered : {better : ℕ × ℕ → ℕ × ℕ → Type 0} {start : ℕ → ℕ → ℕ × ℕ → ℕ} {IsSuch : (ℕ → Type 0) → ℕ → ℕ → ℕ → Type 0} → Chooses better start IsSuch
    → (g : GPT) (size n : ℕ) (slots : List (ℕ × ℕ)) (s : ℕ × ℕ) → IsAsked g size n slots → IsBestSlot better n slots s → record {
      refused : Unit {0};
      value : IsSuch (IsFreeIn g) g.align (max 1 size) (start g.align n s);
      fits : start g.align n s + max 1 size ≤ 2 ^ 64;
    }
offered {better} {start} {IsSuch} choice g size n slots s a chosen =
    let is = a.is in
    let positive = a.positive in
    let inside = choice.within g.align n s a.positive chosen.fits in
    let fits = All-contains (λ s. s.0 + s.1 ≤ 2 ^ 64) slots s a.fits chosen.member in
    record {
      refused = tt;
      value = subst (λ (k : ℕ). IsSuch (IsFreeIn g) g.align k (start g.align n s)) a.is
          (choice.found (IsFreeIn g) g.align n slots s (free_settled g.header (entries_in g)) a.positive (omega arith) a.found chosen);
      fits = omega arith;
    }
