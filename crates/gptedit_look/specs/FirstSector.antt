-- Facts about sector 0.
use Rattle.std.specs.Prelude.{◌≡◌, ◌≢◌, ◌≤◌, ◌<◌, ◌⊎◌, ℕ, List, get_or}

-- The sector ends with 55 AA.
abbrev pub IsMarked : List ℕ → Type 0
IsMarked b = (get_or b 510 0 ≡ 85) × (get_or b 511 0 ≡ 170)

-- There is no MBR: no 55 AA, or all bytes of the four entries are zero.
abbrev pub IsVacant : List ℕ → Type 0
IsVacant b = (get_or b 510 0 ≢ 85) ⊎ ((get_or b 511 0 ≢ 170) ⊎ ((k : ℕ) → 446 ≤ k → k < 510 → get_or b k 0 ≡ 0))
