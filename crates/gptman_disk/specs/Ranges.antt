-- Ranges of bytes, each a start and a length.
use Rattle.std.specs.Prelude.{◌≡◌, ◌≤◌, ◌<◌, ◌⊎◌, ◌+◌, ℕ, List, [], ◌∷◌, length, get_or}

-- k is in one of the ranges
abbrev pub Inside : List (ℕ × ℕ) → ℕ → Type 0
Inside [] k = ⊥
Inside (r ∷ ranges) k = ((r.0 ≤ k) × (k < r.0 + r.1)) ⊎ Inside ranges k

-- Two lists of bytes of equal length are equal in the ranges.
pub record AgreesInside (ranges : List (ℕ × ℕ)) (a b : List ℕ) : Type 0 where
  pub long : length b ≡ length a
  pub same : (k : ℕ) → Inside ranges k → get_or b k 0 ≡ get_or a k 0

-- the range has no byte in common with any of the others
abbrev pub IsApartFromAll : ℕ × ℕ → List (ℕ × ℕ) → Type 0
IsApartFromAll r [] = Unit {0}
IsApartFromAll r (s ∷ ranges) = ((r.1 ≡ 0) ⊎ ((s.1 ≡ 0) ⊎ ((r.0 + r.1 ≤ s.0) ⊎ (s.0 + s.1 ≤ r.0)))) × IsApartFromAll r ranges

-- no two ranges have a byte in common
abbrev pub AreApart : List (ℕ × ℕ) → Type 0
AreApart [] = Unit {0}
AreApart (r ∷ ranges) = IsApartFromAll r ranges × AreApart ranges

-- no range of the first list has a byte in common with one of the second
abbrev pub AreClear : List (ℕ × ℕ) → List (ℕ × ℕ) → Type 0
AreClear [] others = Unit {0}
AreClear (r ∷ ranges) others = IsApartFromAll r others × AreClear ranges others

-- each range is on a disk of this length; an empty range always is
abbrev pub AreInside : List (ℕ × ℕ) → ℕ → Type 0
AreInside [] len = Unit {0}
AreInside (r ∷ ranges) len = ((r.1 ≡ 0) ⊎ (r.0 + r.1 ≤ len)) × AreInside ranges len
