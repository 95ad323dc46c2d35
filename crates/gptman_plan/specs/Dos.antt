-- An MBR with its own partitions, as DOS writes it: four entries of 16 bytes from byte 446.
use Rattle.std.specs.Prelude.{◌≡◌, ◌≢◌, ◌⊎◌, ◌+◌, ℕ, List, [], ◌∷◌, get_or}
use Rattle.gptman.specs.Bytes.{part}
use Rattle.gptman_plan.specs.Reading.{IsLackOf, OfEvery}
use Rattle.gptman_plan.specs.Rounds.{first_sector}
use Rattle.gptman_plan.specs.declared.dos.Seen.{Seen}
use Rattle.gptman_plan.specs.declared.ends.Ends.{Ends}
use Rattle.gptman_plan.specs.declared.dos.Seen.TheVariants.{Clear, DosDisk, Unknown}

-- the entry at this byte begins with a boot mark
abbrev pub HasBootMark : List ℕ → ℕ → Type 0
HasBootMark s at = (get_or s at 0 ≡ 0) ⊎ (get_or s at 0 ≡ 0x80)

-- the length of the entry, in its last four bytes, is not 0
abbrev pub HasLength : List ℕ → ℕ → Type 0
HasLength s at = (get_or s (at + 12) 0 ≢ 0) ⊎ ((get_or s (at + 13) 0 ≢ 0) ⊎ ((get_or s (at + 14) 0 ≢ 0) ⊎ (get_or s (at + 15) 0 ≢ 0)))

-- the entry has a type and a length
abbrev pub IsUsedAt : List ℕ → ℕ → Type 0
IsUsedAt s at = (get_or s (at + 4) 0 ≢ 0) × HasLength s at

-- each of the four entries begins with a boot mark
abbrev pub AreMarked : List ℕ → Type 0
AreMarked s = HasBootMark s 446 × HasBootMark s 462 × HasBootMark s 478 × HasBootMark s 494

-- one of the four entries is used
abbrev pub HasUsed : List ℕ → Type 0
HasUsed s = IsUsedAt s 446 ⊎ (IsUsedAt s 462 ⊎ (IsUsedAt s 478 ⊎ IsUsedAt s 494))

-- none of the four entries is that of a protective MBR
abbrev pub AreUnprotected : List ℕ → Type 0
AreUnprotected s = (get_or s 450 0 ≢ 0xEE) × (get_or s 466 0 ≢ 0xEE) × (get_or s 482 0 ≢ 0xEE) × (get_or s 498 0 ≢ 0xEE)

-- The bytes have the signature of an MBR, each entry begins with a boot mark, one is used, and none is protective.
pub record IsDosSector (s : List ℕ) : Type 0 where
  pub signed : get_or s 510 0 ≡ 0x55
  pub signed_too : get_or s 511 0 ≡ 0xAA
  pub marked : AreMarked s
  pub used : HasUsed s
  pub unprotected : AreUnprotected s

-- The first 512 bytes of the disk are an MBR with its own partitions.
abbrev pub IsDosDisk : List ℕ → Type 0
IsDosDisk b = IsDosSector (part b 0 512)

-- a result that holds for every disk with these ends, or a range that they do not have
abbrev pub IsSeen : Ends → Seen → Type 0
IsSeen ends Clear = OfEvery ends (λ b. ¬ IsDosDisk b)
IsSeen ends DosDisk = OfEvery ends IsDosDisk
IsSeen ends (Unknown lack) = IsLackOf (λ _. first_sector ∷ []) ends lack
