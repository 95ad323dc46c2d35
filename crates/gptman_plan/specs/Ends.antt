-- The ends of a disk, and the disk with zeros between them.
use Rattle.std.specs.Prelude.{◌≡◌, ◌≤◌, ◌⊎◌, ◌+◌, ◌-◌, ◌++◌, ℕ, true, List, [], ◌∷◌, length, replicate, Option, None, Some}
use Rattle.gptman.specs.Bytes.{part}
use Rattle.gptman.specs.Disk.{AgreesOutside, DiskState, IsSound}
use Rattle.gptman_plan.specs.declared.ends.Ends.{Ends}
use Rattle.gptman_plan.specs.declared.reader.Torn.{Torn}
use Rattle.std.proofs.Common.{sym, ap, ◌∙◌, add_assoc, add_comm, add-sub_of_le, length-append}
use Rattle.std.proofs.lemmas.List.{length-replicate}

-- The disk b has this length, and begins and ends with these bytes.
pub record HasEnds (b head tail : List ℕ) (size : ℕ) : Type 0 where
  pub long : length b ≡ size
  pub at_head : part b 0 (length head) ≡ head
  pub at_tail : part b (size - length tail) (length tail) ≡ tail

-- The range is within one of the ends of a disk of size bytes, which have `first` and `last` bytes; or on the disk, if
-- the ends meet.
abbrev pub IsKnown : ℕ → ℕ → ℕ → ℕ × ℕ → Type 0
IsKnown first last size range =
    (range.0 + range.1 ≤ first) ⊎ (((size - last ≤ range.0) × (range.0 + range.1 ≤ size)) ⊎ ((size ≤ first + last) × (range.0 + range.1 ≤ size)))

-- each of the ranges is within one of these ends, or on the disk if they meet
abbrev pub AreRangesKnown : ℕ → ℕ → ℕ → List (ℕ × ℕ) → Type 0
AreRangesKnown first last size [] = Unit {0}
AreRangesKnown first last size (range ∷ ranges) = IsKnown first last size range × AreRangesKnown first last size ranges

-- the disk with these ends, and with zeros between them
abbrev pub disk_bytes : List ℕ → List ℕ → ℕ → List ℕ
disk_bytes head tail size = head ++ (replicate (size - (length head + length tail)) 0 ++ tail)

-- the same, for a value of type Ends
abbrev pub zeroed : Ends → List ℕ
zeroed ends = disk_bytes ends.head.now ends.tail.now ends.size

-- the disk has these ends
abbrev pub IsDiskOf : Ends → List ℕ → Type 0
IsDiskOf ends b = HasEnds b ends.head.now ends.tail.now ends.size

-- the range is within one of the ends, or on the disk if the ends meet
abbrev pub HaveRange : Ends → ℕ × ℕ → Type 0
HaveRange ends range = IsKnown (length ends.head.now) (length ends.tail.now) ends.size range

-- each of the ranges is within one of the ends, or on the disk if the ends meet
abbrev pub HaveRanges : Ends → List (ℕ × ℕ) → Type 0
HaveRanges ends ranges = AreRangesKnown (length ends.head.now) (length ends.tail.now) ends.size ranges

-- the range of a write that failed
abbrev pub torn_ranges : Option Torn → List (ℕ × ℕ)
torn_ranges None = []
torn_ranges (Some t) = (t.at, t.length) ∷ []

-- an honest disk of these bytes, for reading
abbrev pub known_state : List ℕ → Option Torn → ℕ → ℕ → ℕ → DiskState
known_state bytes torn size position failures = record {
  size = size;
  position = position;
  view = bytes;
  pending = torn_ranges torn;
  failures = failures;
  clock = 0;
  left_since = λ t b. AgreesOutside (torn_ranges torn) bytes b;
  is_honest = true;
}

-- the laws of an honest disk hold for it
pub known_sound : (bytes : List ℕ) (torn : Option Torn) (s p f : ℕ) → length bytes ≡ s → IsSound (known_state bytes torn s p f)
known_sound bytes torn s p f long = record {
  size = λ i. long i;
  counts_now = λ t b le image. image;
  only_now = λ b left. left;
  earlier = λ t u b le left. left;
}

-- the disk with zeros between its ends has the right length
pub length-disk_bytes : (head tail : List ℕ) (size : ℕ) → length head + length tail ≤ size → length (disk_bytes head tail size) ≡ size
length-disk_bytes head tail size apart =
    let middle : ℕ = size - (length head + length tail) in
    length-append head (replicate middle 0 ++ tail)
    ∙ ap (λ (n : ℕ). length head + n) (length-append (replicate middle 0) tail ∙ ap (λ (n : ℕ). n + length tail) (length-replicate {A = ℕ} middle 0) ∙ add_comm middle (length tail))
    ∙ sym (add_assoc (length head) (length tail) middle)
    ∙ add-sub_of_le apart

pub length-zeroed : (ends : Ends) → length (zeroed ends) ≡ ends.size
length-zeroed ends = length-disk_bytes ends.head.now ends.tail.now ends.size ends.apart
