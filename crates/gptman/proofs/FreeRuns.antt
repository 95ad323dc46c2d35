-- Runs of free sectors, and lists of the aligned slots up to a sector.
use Rattle.std.proofs.Common.{◌≡◌, ℕ, ◌+◌, ◌-◌, ◌<◌, ◌≤◌, List, [], ◌∷◌, ◌++◌, inl, inr, sym, subst, arith}
use Rattle.std.specs.List.{All, AllPairs, Contains}
use Rattle.std.proofs.lemmas.Bool.{cases_lt}
use Rattle.std.proofs.lemmas.List.Elements.{All-push, All-weaker, Contains-append_left, Contains-push}
use Rattle.std.proofs.lemmas.List.Quantifiers.{all_pairs_push}
use Rattle.gptman.specs.Place.{IsRun, IsFirstMultiple, IsAlignedSlot, AreSlots}
use Rattle.gptman.specs.Sweep.{AddsSlot}
use Rattle.gptman.specs.Sweep.AddsSlot.{added, kept}
use Rattle.gptman.proofs.Multiples.{one_first_multiple}

-- If two runs share a sector, neither begins later,
pub not_later : (F : ℕ → Type 0) (a b c d x : ℕ) → IsRun F a b → IsRun F c d → a ≤ x → x ≤ b → c ≤ x → c ≤ a
not_later F a b c d x p q ax xb cx = elim (cases_lt a c) [
  | inl less ↦ absurd (q.before (c - 1) (omega arith) (p.inside (c - 1) (omega arith) (omega arith)))
  | inr more ↦ more
]

-- nor ends later.
pub not_longer : (F : ℕ → Type 0) (a b c d x : ℕ) → IsRun F a b → IsRun F c d → a ≤ x → x ≤ b → c ≤ x → x ≤ d → b ≤ d
not_longer F a b c d x p q ax xb cx xd = elim (cases_lt d b) [
  | inl less ↦ absurd (q.after (p.inside (d + 1) (omega arith) (omega arith)))
  | inr more ↦ more
]

-- The start of a slot is free.
pub slot_free : (F : ℕ → Type 0) (align s n : ℕ) → IsAlignedSlot F align s n → F s
slot_free F align s n t = t.run.inside s t.start.from t.within

-- A slot that starts in a run belongs to that run.
pub slot_of_run : (F : ℕ → Type 0) (align a b s n : ℕ) → IsRun F a b → IsAlignedSlot F align s n → a ≤ s → s ≤ b → IsFirstMultiple align a s × (s + n ≡ b + 1)
slot_of_run F align a b s n p t sa sb =
    let h1 = not_later F a b t.first t.last s p t.run sa sb t.start.from in
    let h2 = not_later F t.first t.last a b s t.run p t.start.from t.within sa in
    let h3 = not_longer F a b t.first t.last s p t.run sa sb t.start.from t.within in
    let h4 = not_longer F t.first t.last a b s t.run p t.start.from t.within sa sb in
    let e : t.first ≡ a = omega arith in
    let long = t.long in
    (subst (λ (y : ℕ). IsFirstMultiple align y s) e t.start, omega arith)

-- The list has the slots that start up to p, and p is not free.
pub record Swept (F : ℕ → Type 0) (align : ℕ) (slots : List (ℕ × ℕ)) (p : ℕ) : Type 0 where
  pub each : All (λ s. IsAlignedSlot F align s.0 s.1) slots
  pub below : All (λ s. s.0 ≤ p) slots
  pub every : (s n : ℕ) → IsAlignedSlot F align s n → s ≤ p → Contains slots (s, n)
  pub ascending : AllPairs (λ s t. s.0 < t.0) slots
  pub wall : ¬ F p

-- Past sectors that are not free.
pub swept_skip : (F : ℕ → Type 0) (align : ℕ) (slots : List (ℕ × ℕ)) (p q : ℕ) → p ≤ q → ((x : ℕ) → p < x → x ≤ q → ¬ F x) → Swept F align slots p
    → Swept F align slots q
swept_skip F align slots p q le none w = record {
  each = w.each;
  below = All-weaker (λ s. s.0 ≤ p) (λ s. s.0 ≤ q) (λ s h. omega arith) slots w.below;
  every = λ s n t h. elim (cases_lt p s) [
    | inl late ↦ absurd (none s late h (slot_free F align s n t))
    | inr early ↦ w.every s n t early
  ];
  ascending = w.ascending;
  wall = elim (cases_lt p q) [
    | inl less ↦ none q less (omega arith)
    | inr more ↦ let e : p ≡ q = omega arith in subst (λ (y : ℕ). ¬ F y) e w.wall
  ];
}

-- Past a run whose slot was appended to the list.
pub swept_run : (F : ℕ → Type 0) (align : ℕ) (old new : List (ℕ × ℕ)) (p r q : ℕ) → Swept F align old p → IsRun F (p + 1) r → r < q
    → ((x : ℕ) → r < x → x ≤ q → ¬ F x) → AddsSlot align (p + 1) r old new → Swept F align new q
swept_run F align old new p r q w run rq none (added slot is e) =
    let here : IsAlignedSlot F align slot.0 slot.1 = record { first = p + 1; last = r; run = run; start = is.start; within = is.within; long = is.long } in
    let late = is.start.from in
    let within = is.within in
    let all : Swept F align (old ++ slot ∷ []) q = record {
      each = All-push (λ s. IsAlignedSlot F align s.0 s.1) old slot w.each here;
      below = All-push (λ s. s.0 ≤ q) old slot (All-weaker (λ s. s.0 ≤ p) (λ s. s.0 ≤ q) (λ s h. omega arith) old w.below) (omega arith);
      every = λ s n t h. elim (cases_lt p s) [
        | inl later ↦ elim (cases_lt r s) [
          | inl past ↦ absurd (none s past h (slot_free F align s n t))
          | inr in_run ↦
              let at = slot_of_run F align (p + 1) r s n run t (omega arith) in_run in
              let same = one_first_multiple align (p + 1) slot.0 s is.start at.0 in
              let ends = at.1 in
              let long = is.long in
              let far : slot.1 ≡ n = omega arith in
              let pair : ◌≡◌ {A = ℕ × ℕ} slot (s, n) = λ i. (same i, far i) in
              subst (λ (y : ℕ × ℕ). Contains (old ++ slot ∷ []) y) pair (Contains-push old slot)
        ]
        | inr early ↦ Contains-append_left old (slot ∷ []) (s, n) (w.every s n t early)
      ];
      ascending = all_pairs_push (λ s t. s.0 < t.0) old slot w.ascending (λ k d h. let b = w.below k d h in omega arith);
      wall = none q rq (omega arith);
    } in subst (λ (l : List (ℕ × ℕ)). Swept F align l q) (sym e) all
swept_run F align old new p r q w run rq none (kept bare e) =
    let all : Swept F align old q = record {
      each = w.each;
      below = All-weaker (λ s. s.0 ≤ p) (λ s. s.0 ≤ q) (λ s h. let le = run.ordered in omega arith) old w.below;
      every = λ s n t h. elim (cases_lt p s) [
        | inl later ↦ elim (cases_lt r s) [
          | inl past ↦ absurd (none s past h (slot_free F align s n t))
          | inr in_run ↦
              let at = slot_of_run F align (p + 1) r s n run t (omega arith) in_run in
              let far = bare s at.0 in absurd (omega arith)
        ]
        | inr early ↦ w.every s n t early
      ];
      ascending = w.ascending;
      wall = none q rq (omega arith);
    } in subst (λ (l : List (ℕ × ℕ)). Swept F align l q) (sym e) all

-- No free sector remains.
pub swept_all : (F : ℕ → Type 0) (align : ℕ) (slots : List (ℕ × ℕ)) (p : ℕ) → ((x : ℕ) → p < x → ¬ F x) → Swept F align slots p → AreSlots F align slots
swept_all F align slots p none w = record {
  each = w.each;
  every = λ s n t. elim (cases_lt p s) [
    | inl late ↦ absurd (none s late (slot_free F align s n t))
    | inr early ↦ w.every s n t early
  ];
  ascending = w.ascending;
}
