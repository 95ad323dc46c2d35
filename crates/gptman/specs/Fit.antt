-- New headers, and fitting a header to a disk.
use Rattle.std.specs.Prelude.{ℕ, ◌+◌, ◌-◌, ◌*◌, ◌/◌, ◌||◌, Bool, List, Option, Some, None, nat_eq, nat_lt, replicate, if◌then◌else◌}
use Rattle.std.specs.Int.{div_ceil}
use Rattle.gptman_disk.specs.Fault.{Fault, overflow}
use Rattle.gptman.specs.Copy.{right_signature, right_revision}
use Rattle.gptman.specs.declared.codec.header.GPTHeader.{GPTHeader}

-- A header of `count` entries of 128 bytes in primary form, without checksums and not fitted to a disk.
abbrev pub new_header_of : ℕ → List ℕ → GPTHeader
new_header_of count guid = record {
  signature = right_signature;
  revision = right_revision;
  header_size = 92;
  crc32_checksum = 0;
  reserved = replicate 4 0;
  primary_lba = 1;
  backup_lba = 0;
  first_usable_lba = 0;
  last_usable_lba = 0;
  disk_guid = guid;
  partition_entry_lba = 2;
  number_of_partition_entries = count;
  size_of_partition_entry = 128;
  partition_entry_array_crc32 = 0;
}

-- A new header of 128 entries.
abbrev pub new_header : List ℕ → GPTHeader
new_header guid = new_header_of 128 guid

-- The length in bytes of the entries that a header counts.
abbrev pub array_size : GPTHeader → ℕ
array_size h = h.number_of_partition_entries * h.size_of_partition_entry

-- The sectors that the entries take, rounded up.
abbrev pub array_sectors : GPTHeader → ℕ → ℕ
array_sectors h ss = div_ceil (array_size h) ss

-- The disk has fewer than two sectors besides the entry array.
abbrev pub is_too_small : ℕ → ℕ → Bool
is_too_small sectors array = nat_lt sectors (array + 2)

-- The error: the entries have no bytes, or the disk is too small.
abbrev pub fit_fault : GPTHeader → ℕ → ℕ → Option Fault
fit_fault h ss len = if nat_eq (array_size h) 0 || is_too_small (len / ss) (array_sectors h ss) then Some overflow else None

-- The header fitted to a disk of `sectors` sectors, with an entry array of `array` sectors: new bounds, the other
-- header in the last sector, and entries that are not in sector 2 after the last usable sector.
abbrev pub fit_to_sectors : GPTHeader → ℕ → ℕ → GPTHeader
fit_to_sectors h sectors array = record h {
  primary_lba = if nat_eq h.primary_lba 1 then h.primary_lba else sectors - 1;
  backup_lba = if nat_eq h.primary_lba 1 then sectors - 1 else h.backup_lba;
  first_usable_lba = 2 + array;
  last_usable_lba = sectors - array - 2;
  partition_entry_lba = if nat_eq h.partition_entry_lba 2 then h.partition_entry_lba else sectors - array - 2 + 1;
}

-- The header fitted to a disk of len bytes.
abbrev pub fit_header : GPTHeader → ℕ → ℕ → GPTHeader
fit_header h ss len = fit_to_sectors h (len / ss) (array_sectors h ss)
