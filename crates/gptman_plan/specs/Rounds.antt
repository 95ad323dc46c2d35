-- The ranges for which a read asks, and rounds of calls that each ask for bytes that their ends do not have.
use Rattle.std.specs.Prelude.{◌≡◌, ◌⊎◌, ◌*◌, ◌++◌, ℕ, List, [], ◌∷◌, length, Result, Ok, Err}
use Rattle.gptman.specs.Copy.{header_result}
use Rattle.gptman.specs.Fault.{Fault}
use Rattle.gptman.specs.Reading.{primary, backup, copy_start}
use Rattle.gptman.specs.declared.codec.header.GPTHeader.{GPTHeader}
use Rattle.gptman_plan.specs.Ends.{IsKnown}

-- ---- the ranges for which a read asks

-- the entries of the header, if there is one, with sectors of ss bytes
abbrev pub entries_range : ℕ → Result GPTHeader Fault → List (ℕ × ℕ)
entries_range ss (Ok h) = (h.partition_entry_lba * ss, 128 * h.number_of_partition_entries) ∷ []
entries_range ss (Err fault) = []

-- the header at byte p of these bytes, and its entries
abbrev pub copy_ranges : List ℕ → ℕ → ℕ → List (ℕ × ℕ)
copy_ranges b ss p = (p, 92) ∷ entries_range ss (header_result b p)

-- the ranges of both copies: at most four, which depend only on the bytes of the disk
abbrev pub reading_ranges : List ℕ → ℕ → List (ℕ × ℕ)
reading_ranges b ss = copy_ranges b ss (copy_start primary (length b) ss) ++ copy_ranges b ss (copy_start backup (length b) ss)

-- the first 512 bytes, where a partition table of DOS would be
abbrev pub first_sector : ℕ × ℕ
first_sector = (0, 512)

-- ---- rounds of calls

-- the range is one of these
abbrev pub IsAmong : ℕ × ℕ → List (ℕ × ℕ) → Type 0
IsAmong range [] = ⊥
IsAmong range (place ∷ places) = (range ≡ place) ⊎ IsAmong range places

-- A call with the first `head` bytes of a disk and its last `tail` ones, and the range for which it asked.
pub record Round : Type 0 where
  pub head : ℕ
  pub tail : ℕ
  pub asked : ℕ × ℕ

-- the ends of each of the rounds have the range
abbrev pub IsKnownInEach : ℕ → ℕ × ℕ → List Round → Type 0
IsKnownInEach size range [] = Unit {0}
IsKnownInEach size range (round ∷ rounds) = IsKnown round.head round.tail size range × IsKnownInEach size range rounds

-- on a disk of size bytes each round asked for one of the places, which its ends do not have, and those of each later
-- round do
abbrev pub AreRounds : ℕ → List (ℕ × ℕ) → List Round → Type 0
AreRounds size places [] = Unit {0}
AreRounds size places (round ∷ rounds) =
    IsAmong round.asked places × (¬ IsKnown round.head round.tail size round.asked) × IsKnownInEach size round.asked rounds × AreRounds size places rounds
