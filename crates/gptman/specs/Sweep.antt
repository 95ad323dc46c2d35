-- The sectors that one pass over the covered ranges, by ascending start, finds.
use Rattle.std.specs.Prelude.{◌≡◌, ℕ, ◌+◌, ◌<◌, ◌≤◌, List, [], ◌∷◌, ◌++◌, All}
use Rattle.gptman.specs.Place.{IsFirstMultiple, IsUsable}
use Rattle.gptman.specs.declared.codec.header.GPTHeader.{GPTHeader}

-- The sector is not in the range (first, last).
abbrev pub Misses : ℕ → ℕ × ℕ → Type 0
Misses sector r = r.0 ≤ sector → ¬ (sector ≤ r.1)

-- The sector is usable, and in none of the ranges.
pub record IsOutside (h : GPTHeader) (rs : List (ℕ × ℕ)) (sector : ℕ) : Type 0 where
  pub usable : IsUsable h sector
  pub uncovered : All (Misses sector) rs

-- The slot is from the first multiple of align from a on, to b.
pub record IsSlotOf (align a b : ℕ) (slot : ℕ × ℕ) : Type 0 where
  pub start : IsFirstMultiple align a slot.0
  pub within : slot.0 ≤ b
  pub long : slot.0 + slot.1 ≡ b + 1

-- There is no multiple of align from a to b.
abbrev pub HasNoMultiple : ℕ → ℕ → ℕ → Type 0
HasNoMultiple align a b = (s : ℕ) → IsFirstMultiple align a s → b < s

-- The slot of the sectors from a to b, if they have one, is appended to the list.
pub data AddsSlot (align a b : ℕ) (old new : List (ℕ × ℕ)) : Type 0 where
  added : (slot : ℕ × ℕ) → IsSlotOf align a b slot → new ≡ old ++ slot ∷ [] → AddsSlot align a b old new
  kept : HasNoMultiple align a b → new ≡ old → AddsSlot align a b old new

-- The slot of the sectors after p up to b, if they have one, is appended to the list.
pub data AddsGap (align p b : ℕ) (old new : List (ℕ × ℕ)) : Type 0 where
  gap : p < b → AddsSlot align (p + 1) b old new → AddsGap align p b old new
  no_gap : b ≤ p → new ≡ old → AddsGap align p b old new
