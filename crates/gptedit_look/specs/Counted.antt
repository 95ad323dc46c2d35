-- Headers that count more entries than are read.
use Rattle.std.specs.Prelude.{◌≡◌, ◌≤◌, ◌<◌, ◌⊎◌, ℕ, List, Option, Some, None}
use Rattle.gptman.specs.declared.codec.header.GPTHeader.{GPTHeader}
use Rattle.gptedit_look.specs.Wiped.{header_in}
use Rattle.gptedit_look.specs.declared.seen.Looked.{Looked}
use Rattle.gptedit_look.specs.declared.seen.Looked.TheVariants.{Seen, TooMany}
use Rattle.gptedit_look.specs.declared.signatures.HeaderPlace.TheVariants.{Start, End}

-- There is a header that counts this number of entries, more than 32768.
abbrev pub CountsTooMany : ℕ → Option GPTHeader → Type 0
CountsTooMany count (Some h) = (h.number_of_partition_entries ≡ count) × (32768 < count)
CountsTooMany count None = ⊥

-- The header, if there is one, counts at most 32768 entries.
abbrev pub CountsFew : Option GPTHeader → Type 0
CountsFew (Some h) = h.number_of_partition_entries ≤ 32768
CountsFew None = Unit {0}

-- The number of entries of this header, if it is above 32768.
abbrev pub IsTooManyOf : Option GPTHeader → Option ℕ → Type 0
IsTooManyOf header (Some count) = CountsTooMany count header
IsTooManyOf header None = CountsFew header

-- The number of entries of a valid header in these bytes with this sector size, if one is above 32768.
abbrev pub IsCountedAt : ℕ → List ℕ → Option ℕ → Type 0
IsCountedAt ss b (Some count) = CountsTooMany count (header_in Start ss b) ⊎ CountsTooMany count (header_in End ss b)
IsCountedAt ss b None = CountsFew (header_in Start ss b) × CountsFew (header_in End ss b)

-- The same with this sector size, or with 512 and 4096.
abbrev pub IsCountedIn : Option ℕ → List ℕ → Option ℕ → Type 0
IsCountedIn (Some ss) b count = IsCountedAt ss b count
IsCountedIn None b (Some count) = IsCountedAt 512 b (Some count) ⊎ IsCountedAt 4096 b (Some count)
IsCountedIn None b None = IsCountedAt 512 b None × IsCountedAt 4096 b None

-- An inspection ends early exactly if a valid header counts too many entries, and gives its number.
abbrev pub IsCounted : Option ℕ → List ℕ → Looked → Type 0
IsCounted size b (TooMany count) = IsCountedIn size b (Some count)
IsCounted size b (Seen look) = IsCountedIn size b None
