-- When a table may be written.
use Rattle.std.specs.Prelude.{◌≡◌, ◌≢◌, ℕ, ◌+◌, ◌≤◌, ◌<◌, IsTrue, List, All, AllPairs, Option, Some, None}
use Rattle.gptman.specs.Entry.{is_used, covers}
use Rattle.gptman_disk.specs.Fault.{Fault, conflict_partition_guid, invalid_partition_boundaries}
use Rattle.gptman.specs.declared.codec.header.GPTHeader.{GPTHeader}
use Rattle.gptman.specs.declared.codec.entry.GPTPartitionEntry.{GPTPartitionEntry}

-- Any two used entries have different unique GUIDs.
abbrev pub HasOwnGuids : List GPTPartitionEntry → Type 0
HasOwnGuids es = AllPairs (λ d e. IsTrue (is_used d) → IsTrue (is_used e) → d.unique_partition_guid ≢ e.unique_partition_guid) es

-- No sector is covered by both entries.
abbrev pub AreDisjoint : GPTPartitionEntry → GPTPartitionEntry → Type 0
AreDisjoint d e = (sector : ℕ) → IsTrue (covers sector d) → ¬ IsTrue (covers sector e)

-- The entry, if used, is within the bounds of the header.
abbrev pub LiesWithin : GPTHeader → GPTPartitionEntry → Type 0
LiesWithin h e = IsTrue (is_used e) → (h.first_usable_lba ≤ e.starting_lba) × (e.ending_lba ≤ h.last_usable_lba)

-- Every entry starts at or before its end. Used entries are within the bounds and do not overlap. The first usable
-- sector is at most the last one plus 1.
pub record HasGoodBoundaries (h : GPTHeader) (es : List GPTPartitionEntry) : Type 0 where
  pub ordered : All (λ e. e.starting_lba ≤ e.ending_lba) es
  pub disjoint : AllPairs AreDisjoint es
  pub within : All (LiesWithin h) es
  pub bounds : h.first_usable_lba ≤ h.last_usable_lba + 1

-- A table that may be written.
pub record IsValid (h : GPTHeader) (es : List GPTPartitionEntry) : Type 0 where
  pub own_guids : HasOwnGuids es
  pub boundaries : HasGoodBoundaries h es

-- The error of a table before it is written, or none if it is valid. A unique GUID that two used entries share is
-- reported first.
pub data IsValidity (h : GPTHeader) (es : List GPTPartitionEntry) (fault : Option Fault) : Type 0 where
  shared_guid : ¬ HasOwnGuids es → fault ≡ Some conflict_partition_guid → IsValidity h es fault
  bad_boundaries : HasOwnGuids es → ¬ HasGoodBoundaries h es → fault ≡ Some invalid_partition_boundaries → IsValidity h es fault
  valid : IsValid h es → fault ≡ None → IsValidity h es fault

-- The first range (first, last) ends before the second begins.
abbrev pub EndsBefore : ℕ × ℕ → ℕ × ℕ → Type 0
EndsBefore r s = r.1 < s.0
