-- The slot chosen so far in a loop over the list.
use Rattle.std.proofs.Common.{◌≡◌, ℕ, ◌+◌, ◌<◌, ◌≤◌, List, [], ◌∷◌, ◌++◌, length, get_or, take, inl, inr, sym, ap, refl, subst, arith, Option, Some, None}
use Rattle.std.specs.Prelude.{MatchOption, IsSomeAnd, IfSome}
use Rattle.std.specs.List.{All, AllPairs}
use Rattle.std.proofs.lemmas.Bool.{cases_lt}
use Rattle.std.proofs.lemmas.List.{take_more, get_or-take, get_or_default, length-take}
use Rattle.std.proofs.lemmas.List.Elements.{All-push, All-weaker, Contains-append_left, Contains-push, Contains-get_or, All-contains}
use Rattle.gptman.specs.Chosen.{AreShort, IsBestSlot, IsBefore, IsNoLater, IsNoEarlier, IsTighter}

-- A slot that no earlier one beats is chosen.
pub chosen_now : (better : ℕ × ℕ → ℕ × ℕ → Type 0) (n : ℕ) (slots : List (ℕ × ℕ)) (s : ℕ × ℕ) → n ≤ s.1 → better s s → All (λ t. n ≤ t.1 → better s t) slots
    → IsBestSlot better n (slots ++ s ∷ []) s
chosen_now better n slots s fits itself all = record {
  member = Contains-push slots s;
  fits = fits;
  best = All-push (λ t. n ≤ t.1 → better s t) slots s all (λ h. itself);
}

-- The chosen slot is kept.
pub chosen_still : (better : ℕ × ℕ → ℕ × ℕ → Type 0) (n : ℕ) (slots : List (ℕ × ℕ)) (s t : ℕ × ℕ) → IsBestSlot better n slots s → (n ≤ t.1 → better s t)
    → IsBestSlot better n (slots ++ t ∷ []) s
chosen_still better n slots s t c no_better = record {
  member = Contains-append_left slots (t ∷ []) s c.member;
  fits = c.fits;
  best = All-push (λ t. n ≤ t.1 → better s t) slots t c.best no_better;
}

pub short_still : (n : ℕ) (slots : List (ℕ × ℕ)) (t : ℕ × ℕ) → AreShort n slots → t.1 < n → AreShort n (slots ++ t ∷ [])
short_still n slots t all h = All-push (λ s. s.1 < n) slots t all h

-- Each slot before index i starts before slot i.
pub all_before : (slots : List (ℕ × ℕ)) (i : ℕ) (d : ℕ × ℕ) → AllPairs IsBefore slots → i < length slots
    → All (λ t. IsBefore t (get_or slots i d)) (take i slots)
all_before slots i d pairs h k e within =
    let in_front : k < i = omega (arith, length-take i slots) in
    let same : (get_or (take i slots) k e).0 ≡ (get_or slots k e).0 = ap (λ (r : ℕ × ℕ). r.0) (get_or-take i slots k e in_front) in
    let there : (get_or slots i e).0 ≡ (get_or slots i d).0 = ap (λ (r : ℕ × ℕ). r.0) (get_or_default slots i e d h) in
    let less = pairs k i e in_front h in
    omega arith

-- The invariant of a loop over the slots.
abbrev pub SoFar : (ℕ × ℕ → ℕ × ℕ → Type 0) → ℕ → List (ℕ × ℕ) → Option (ℕ × ℕ) → Type 0
SoFar better n slots found = MatchOption found (AreShort n slots) (λ s. IsBestSlot better n slots s)

-- Slot i is skipped.
pub kept_more : (better : ℕ × ℕ → ℕ × ℕ → Type 0) (n : ℕ) (slots : List (ℕ × ℕ)) (i : ℕ) (found : Option (ℕ × ℕ)) → i < length slots
    → SoFar better n (take i slots) found
    → MatchOption found ((get_or slots i (0, 0)).1 < n) (λ s. n ≤ (get_or slots i (0, 0)).1 → better s (get_or slots i (0, 0)))
    → SoFar better n (take (i + 1) slots) found
kept_more better n slots i None h all short =
    subst (λ (l : List (ℕ × ℕ)). AreShort n l) (sym (take_more slots i (0, 0) h)) (short_still n (take i slots) (get_or slots i (0, 0)) all short)
kept_more better n slots i (Some s) h c no_better =
    subst (λ (l : List (ℕ × ℕ)). IsBestSlot better n l s) (sym (take_more slots i (0, 0) h))
    (chosen_still better n (take i slots) s (get_or slots i (0, 0)) c no_better)

-- Slot i is chosen.
pub taken_more : (better : ℕ × ℕ → ℕ × ℕ → Type 0) (n : ℕ) (slots : List (ℕ × ℕ)) (i : ℕ) → i < length slots → let s = get_or slots i (0, 0) in n ≤ s.1
    → better s s → All (λ t. n ≤ t.1 → better s t) (take i slots) → SoFar better n (take (i + 1) slots) (Some s)
taken_more better n slots i h fits itself all =
    subst (λ (l : List (ℕ × ℕ)). IsBestSlot better n l (get_or slots i (0, 0))) (sym (take_more slots i (0, 0) h))
    (chosen_now better n (take i slots) (get_or slots i (0, 0)) fits itself all)

-- The first slot that is long enough.
pub first_taken : (n : ℕ) (slots : List (ℕ × ℕ)) (i : ℕ) → AllPairs IsBefore slots → i < length slots → AreShort n (take i slots)
    → n ≤ (get_or slots i (0, 0)).1 → IsBestSlot IsNoLater n slots (get_or slots i (0, 0))
first_taken n slots i pairs h short fits = record {
  member = Contains-get_or slots i (0, 0) h;
  fits = fits;
  best = λ k d within long. elim (cases_lt k i) [
    | inl early ↦
        let same : (get_or (take i slots) k d).1 ≡ (get_or slots k d).1 = ap (λ (r : ℕ × ℕ). r.1) (get_or-take i slots k d early) in
        let less = short k d (omega (arith, length-take i slots)) in
        absurd (omega arith)
    | inr late ↦ elim (cases_lt i k) [
      | inl later ↦
          let there : (get_or slots i d).0 ≡ (get_or slots i (0, 0)).0 = ap (λ (r : ℕ × ℕ). r.0) (get_or_default slots i d (0, 0) h) in
          let less = pairs i k d later within in
          omega arith
      | inr here ↦
          let e : k ≡ i = omega arith in
          let there : (get_or slots i d).0 ≡ (get_or slots i (0, 0)).0 = ap (λ (r : ℕ × ℕ). r.0) (get_or_default slots i d (0, 0) h) in
          let moved : (get_or slots k d).0 ≡ (get_or slots i d).0 = ap (λ (j : ℕ). (get_or slots j d).0) e in
          omega arith
    ]
  ];
}

-- The last slot so far.
pub last_taken : (n : ℕ) (slots : List (ℕ × ℕ)) (i : ℕ) → AllPairs IsBefore slots → i < length slots → n ≤ (get_or slots i (0, 0)).1
    → SoFar IsNoEarlier n (take (i + 1) slots) (Some (get_or slots i (0, 0)))
last_taken n slots i pairs h fits = taken_more IsNoEarlier n slots i h fits (omega arith)
    (All-weaker (λ t. IsBefore t (get_or slots i (0, 0))) (λ t. n ≤ t.1 → IsNoEarlier (get_or slots i (0, 0)) t) (λ t less long. omega arith) (take i slots)
    (all_before slots i (0, 0) pairs h))

-- A slot that is too short is skipped.
pub last_kept : (n : ℕ) (slots : List (ℕ × ℕ)) (i : ℕ) (found : Option (ℕ × ℕ)) → i < length slots → SoFar IsNoEarlier n (take i slots) found
    → (get_or slots i (0, 0)).1 < n → SoFar IsNoEarlier n (take (i + 1) slots) found
last_kept n slots i None h all short = kept_more IsNoEarlier n slots i None h all short
last_kept n slots i (Some s) h c short = kept_more IsNoEarlier n slots i (Some s) h c (λ long. absurd (omega arith))

shorter_than : (n : ℕ) (s b t : ℕ × ℕ) → s.1 < b.1 → IsTighter b t → IsTighter s t
shorter_than n s b t less (inl more) = inl (omega arith)
shorter_than n s b t less (inr same) = let e = same.0 in inl (omega arith)

-- The shortest slot so far.
pub best_taken : (n : ℕ) (slots : List (ℕ × ℕ)) (i : ℕ) (found : Option (ℕ × ℕ)) → i < length slots → SoFar IsTighter n (take i slots) found
    → n ≤ (get_or slots i (0, 0)).1 → IfSome found (λ b. (get_or slots i (0, 0)).1 < b.1)
    → SoFar IsTighter n (take (i + 1) slots) (Some (get_or slots i (0, 0)))
best_taken n slots i None h short fits less = taken_more IsTighter n slots i h fits (inr (refl, omega arith))
    (All-weaker (λ t. t.1 < n) (λ t. n ≤ t.1 → IsTighter (get_or slots i (0, 0)) t) (λ t less long. absurd (omega arith)) (take i slots) short)
best_taken n slots i (Some b) h c fits less = taken_more IsTighter n slots i h fits (inr (refl, omega arith))
    (All-weaker (λ t. n ≤ t.1 → IsTighter b t) (λ t. n ≤ t.1 → IsTighter (get_or slots i (0, 0)) t)
    (λ t better long. shorter_than n (get_or slots i (0, 0)) b t less (better long)) (take i slots) c.best)

-- A slot that is not shorter comes later.
pub best_kept : (n : ℕ) (slots : List (ℕ × ℕ)) (i : ℕ) (found : Option (ℕ × ℕ)) → AllPairs IsBefore slots → i < length slots
    → SoFar IsTighter n (take i slots) found → (n ≤ (get_or slots i (0, 0)).1 → IsSomeAnd found (λ b. b.1 ≤ (get_or slots i (0, 0)).1))
    → SoFar IsTighter n (take (i + 1) slots) found
best_kept n slots i None pairs h all late =
    kept_more IsTighter n slots i None h all (elim (cases_lt (get_or slots i (0, 0)).1 n) [ inl less ↦ less | inr more ↦ absurd (late more) ])
best_kept n slots i (Some b) pairs h c late = kept_more IsTighter n slots i (Some b) h c (λ long.
    let less = All-contains (λ t. IsBefore t (get_or slots i (0, 0))) (take i slots) b (all_before slots i (0, 0) pairs h) c.member in
    let le = late long in
    elim (cases_lt b.1 (get_or slots i (0, 0)).1) [ inl shorter ↦ inl shorter | inr same ↦ inr (omega arith, omega arith) ])
