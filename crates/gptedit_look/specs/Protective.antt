-- The protective entry of an MBR.
use Rattle.std.specs.Prelude.{◌≡◌, ◌≢◌, ◌≤◌, ◌<◌, ◌⊎◌, ◌+◌, ◌-◌, ◌*◌, ℕ, Bool, true, false, List, [], ◌∷◌, get_or, min}
use Rattle.gptman.specs.Disk.{AgreesOutside}

-- The little-endian number in the 4 bytes at `at`.
abbrev pub number_at : List ℕ → ℕ → ℕ
number_at b at = get_or b at 0 + 256 * (get_or b (at + 1) 0 + 256 * (get_or b (at + 2) 0 + 256 * get_or b (at + 3) 0))

-- The type of entry i, from 0 to 3.
abbrev pub type_of : List ℕ → ℕ → ℕ
type_of b i = get_or b (450 + 16 * i) 0

-- The first sector of entry i.
abbrev pub start_of : List ℕ → ℕ → ℕ
start_of b i = number_at b (454 + 16 * i)

-- The length of entry i in sectors.
abbrev pub length_of : List ℕ → ℕ → ℕ
length_of b i = number_at b (458 + 16 * i)

-- Entry i is protective, and the other three have type 0.
pub record IsOnlyProtective (b : List ℕ) (i : ℕ) : Type 0 where
  pub place : i < 4
  pub protects : type_of b i ≡ 0xEE
  pub others_unused : (j : ℕ) → j < 4 → j ≢ i → type_of b j ≡ 0

-- The first sector that entry i shall have: sector 1, or, unless it may move, the one that it has.
abbrev pub right_start : Bool → List ℕ → ℕ → ℕ
right_start true b i = 1
right_start false b i = start_of b i

-- The length from there to the end of a disk of `sectors` sectors, at most `0xFFFFFFFF`.
abbrev pub right_length : Bool → List ℕ → ℕ → ℕ → ℕ
right_length may_move b sectors i = min (sectors - right_start may_move b i) 0xFFFFFFFF

-- The right start of entry i is on the disk; it has another start, or a length that is neither the right one nor
-- `0xFFFFFFFF`.
pub record IsAskew (may_move : Bool) (b : List ℕ) (sectors i : ℕ) : Type 0 where
  pub inside : right_start may_move b i < sectors
  pub wrong : (start_of b i ≢ right_start may_move b i)
      ⊎ ((length_of b i ≢ right_length may_move b sectors i) × (length_of b i ≢ 0xFFFFFFFF))

-- Entry i is protective, the only entry, and out of place.
abbrev pub IsMisfit : Bool → List ℕ → ℕ → ℕ → Type 0
IsMisfit may_move b sectors i = IsOnlyProtective b i × IsAskew may_move b sectors i

-- Only the end, the start and the length of entry i changed: the end is FF FF FF, the start s, the length n.
pub record HasSpan (i s n : ℕ) (old new : List ℕ) : Type 0 where
  pub others : AgreesOutside ((451 + 16 * i, 3) ∷ (454 + 16 * i, 4) ∷ (458 + 16 * i, 4) ∷ []) old new
  pub end : (k : ℕ) → 451 + 16 * i ≤ k → k < 454 + 16 * i → get_or new k 0 ≡ 0xFF
  pub start : start_of new i ≡ s
  pub length : length_of new i ≡ n
