-- Lists of bytes, and the numbers that they encode.
use Rattle.std.specs.Prelude.{ℕ, ◌+◌, ◌*◌, ◌<◌, List, [], ◌∷◌, take, drop, slice_index}

-- each is below 256
abbrev pub AreBytes : List ℕ → Type 0
AreBytes b = (i : ℕ) → slice_index b i < 256

-- the number that the bytes encode, in little-endian order
abbrev pub le : List ℕ → ℕ
le [] = 0
le (x ∷ xs) = x + 256 * le xs

-- n bytes from index at
abbrev pub part : List ℕ → ℕ → ℕ → List ℕ
part b at n = take n (drop at b)
