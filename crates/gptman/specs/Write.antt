-- The write of a table: its errors, and its bytes.
use Rattle.std.specs.Prelude.{◌≡◌, ℕ, All, OnOk, Result, ◌+◌, ◌*◌, ◌^◌, ◌&&◌, ◌||◌, Bool, not, List, [], ◌∷◌, ◌++◌, Option, nat_eq, nat_le, nat_lt, length, if◌then◌else◌}
use Rattle.std.specs.List.{list_all}
use Rattle.gptman_disk.specs.Bytes.{part}
use Rattle.gptman.specs.Coding.{header_bytes, array_bytes, FitsEntry, FitsHeader}
use Rattle.gptman_disk.specs.Disk.{DiskState, IsHonest, overlay}
use Rattle.gptman_disk.specs.Fault.{Fault, overflow, no_space_left, first_failing}
use Rattle.gptman.specs.declared.codec.header.GPTHeader.{GPTHeader}
use Rattle.gptman.specs.declared.codec.entry.GPTPartitionEntry.{GPTPartitionEntry}

-- The header of the other copy: its two sectors are exchanged, and its entries are after the last usable sector if
-- those of this header are in sector 2, else in sector 2.
abbrev pub other_header : GPTHeader → GPTHeader
other_header h = record h {
  primary_lba = h.backup_lba;
  backup_lba = h.primary_lba;
  partition_entry_lba = if nat_eq h.partition_entry_lba 2 then h.last_usable_lba + 1 else 2;
}

-- The bytes of a header's entries. No entries have no range.
abbrev pub array_range : GPTHeader → ℕ → List (ℕ × ℕ)
array_range h ss = if nat_eq h.number_of_partition_entries 0 then [] else ((h.partition_entry_lba * ss, 128 * h.number_of_partition_entries) ∷ [])

-- The bytes of the header.
abbrev pub header_range : GPTHeader → ℕ → ℕ × ℕ
header_range h ss = (h.primary_lba * ss, 92)

-- The ranges of a copy: its header, and its entries.
abbrev pub copy_ranges : GPTHeader → ℕ → List (ℕ × ℕ)
copy_ranges h ss = header_range h ss ∷ array_range h ss

-- The range's start and end fit in 64 bits.
abbrev pub is_addressable : ℕ × ℕ → Bool
is_addressable r = nat_lt (r.0 + r.1) (2 ^ 64)

-- The range is within a disk of len bytes.
abbrev pub is_inside : ℕ → ℕ × ℕ → Bool
is_inside len r = nat_le (r.0 + r.1) len

-- The error of writing one copy.
abbrev pub copy_write_fault : GPTHeader → ℕ → ℕ → Option Fault
copy_write_fault h ss len = first_failing (
    (list_all is_addressable (copy_ranges h ss), overflow)
    ∷ (list_all (is_inside len) (copy_ranges h ss), no_space_left)
    ∷ [])

-- The ranges of both copies.
abbrev pub four_ranges : GPTHeader → ℕ → List (ℕ × ℕ)
four_ranges h ss = copy_ranges h ss ++ copy_ranges (other_header h) ss

-- The first sector of the other copy's entries fits in 64 bits.
abbrev pub has_other_header : GPTHeader → Bool
has_other_header h = not (nat_eq h.partition_entry_lba 2) || nat_lt (h.last_usable_lba + 1) (2 ^ 64)

-- The error of writing a valid table: that of the first test that fails.
abbrev pub write_fault : GPTHeader → ℕ → ℕ → Option Fault
write_fault h ss len = first_failing (
    (has_other_header h && list_all is_addressable (four_ranges h ss), overflow)
    ∷ (list_all (is_inside len) (four_ranges h ss), no_space_left)
    ∷ [])

-- At most the checksums differ.
abbrev pub SameButSums : GPTHeader → GPTHeader → Type 0
SameButSums old new = new ≡ record old { crc32_checksum = new.crc32_checksum; partition_entry_array_crc32 = new.partition_entry_array_crc32 }

-- new is old, overwritten with the header's bytes and then with those of the entries.
abbrev pub IsCopyWritten : GPTHeader → List GPTPartitionEntry → ℕ → List ℕ → List ℕ → Type 0
IsCopyWritten h es ss old new = new ≡ overlay (overlay old (h.primary_lba * ss) (header_bytes h)) (h.partition_entry_lba * ss) (array_bytes es)

-- Each field of the header and of the entries is a value of its type.
abbrev pub FitsCopy : GPTHeader → List GPTPartitionEntry → Type 0
FitsCopy h es = FitsHeader h × All FitsEntry es

-- On an honest disk, after `Ok` the copy overwrites the previous bytes.
abbrev pub WritesCopy : {T E : Type 0} → GPTHeader → List GPTPartitionEntry → ℕ → Result T E → DiskState → DiskState → Type 0
WritesCopy h es ss result old new = IsHonest old → OnOk result (IsCopyWritten h es ss old.view new.view)

-- The view has the bytes of a header and of its entries at their places.
pub record HasBytes (b : List ℕ) (h : GPTHeader) (es : List GPTPartitionEntry) (ss : ℕ) : Type 0 where
  pub header : part b (h.primary_lba * ss) 92 ≡ header_bytes h
  pub entries : part b (h.partition_entry_lba * ss) (length (array_bytes es)) ≡ array_bytes es
