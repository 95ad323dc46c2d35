-- The alignment that a read derives from the starts of the used entries.
use Prim.Native.Nat.{◌∣◌}
use Rattle.std.specs.Prelude.{◌≡◌, ◌≢◌, ℕ, ◌≤◌, List, [], ◌∷◌, map, filter, All}
use Rattle.gptman.specs.Entry.{is_used}
use Rattle.gptman.specs.declared.codec.entry.GPTPartitionEntry.{GPTPartitionEntry}
use Rattle.gptman.specs.declared.codec.header.GPTHeader.{GPTHeader}

-- The starts of the used entries.
abbrev pub used_starts : List GPTPartitionEntry → List ℕ
used_starts es = map (λ e. e.starting_lba) (filter is_used es)

-- a is the largest number from 1 to 16384 that divides each start.
pub record IsGreatestDivisor (starts : List ℕ) (a : ℕ) : Type 0 where
  pub low : 1 ≤ a
  pub high : a ≤ 16384
  pub divides : All (λ s. a ∣ s) starts
  pub greatest : (d : ℕ) → d ≤ 16384 → All (λ s. d ∣ s) starts → d ≤ a

abbrev pub AreZero : List ℕ → Type 0
AreZero starts = All (λ s. s ≡ 0) starts

-- The alignment: 2048 if no entry is used; 1 if the only used one starts at the first usable sector, or all start at 0;
-- else the largest divisor.
pub record IsAlignmentOf (first : ℕ) (starts : List ℕ) (a : ℕ) : Type 0 where
  pub none : starts ≡ [] → a ≡ 2048
  pub of_one : starts ≡ first ∷ [] → a ≡ 1
  pub zero : starts ≢ [] → AreZero starts → a ≡ 1
  pub other : starts ≢ [] → starts ≢ first ∷ [] → ¬ AreZero starts → IsGreatestDivisor starts a

-- a is the largest divisor of the number from 1 to 16384.
pub record IsGreatestUpTo (number a : ℕ) : Type 0 where
  pub low : 1 ≤ a
  pub high : a ≤ 16384
  pub divides : a ∣ number
  pub greatest : (d : ℕ) → d ≤ 16384 → d ∣ number → d ≤ a

-- The alignment of a table, in sectors.
abbrev pub IsAlignment : GPTHeader → List GPTPartitionEntry → ℕ → Type 0
IsAlignment h es a = IsAlignmentOf h.first_usable_lba (used_starts es) a
