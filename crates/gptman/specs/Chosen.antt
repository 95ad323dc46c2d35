-- The slot of a list that is chosen for a size. A slot is (start, length).
use Rattle.std.specs.Prelude.{◌≡◌, ℕ, ◌-◌, ◌%◌, ◌<◌, ◌≤◌, ◌⊎◌, List, All, Contains}

-- All slots have fewer than n sectors.
abbrev pub AreShort : ℕ → List (ℕ × ℕ) → Type 0
AreShort n slots = All (λ s. s.1 < n) slots

-- s is a slot of the list with at least n sectors, and the best of these.
pub record IsBestSlot (better : ℕ × ℕ → ℕ × ℕ → Type 0) (n : ℕ) (slots : List (ℕ × ℕ)) (s : ℕ × ℕ) : Type 0 where
  pub member : Contains slots s
  pub fits : n ≤ s.1
  pub best : All (λ t. n ≤ t.1 → better s t) slots

-- s starts before t.
abbrev pub IsBefore : ℕ × ℕ → ℕ × ℕ → Type 0
IsBefore s t = s.0 < t.0

abbrev pub IsNoLater : ℕ × ℕ → ℕ × ℕ → Type 0
IsNoLater s t = s.0 ≤ t.0

abbrev pub IsNoEarlier : ℕ × ℕ → ℕ × ℕ → Type 0
IsNoEarlier s t = t.0 ≤ s.0

-- s is shorter than t, or as long and not later.
abbrev pub IsTighter : ℕ × ℕ → ℕ × ℕ → Type 0
IsTighter s t = (s.1 < t.1) ⊎ ((s.1 ≡ t.1) × (s.0 ≤ t.0))

-- The largest multiple of align that the slot has room for.
abbrev pub round_down : ℕ → ℕ × ℕ → ℕ
round_down align s = s.1 - s.1 % align

-- m is the largest of the numbers.
pub record IsGreatest (numbers : List ℕ) (m : ℕ) : Type 0 where
  pub member : Contains numbers m
  pub most : All (λ x. x ≤ m) numbers
