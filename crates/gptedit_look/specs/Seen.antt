-- The findings of an inspection of a disk.
use Rattle.std.specs.Prelude.{◌≡◌, ◌≢◌, ◌≤◌, ◌<◌, ◌⊎◌, ◌+◌, ℕ, List, [], ◌∷◌, Option, Some, None}
use Rattle.gptman.specs.Bytes.{part}
use Rattle.gptman.specs.Coding.{header_of}
use Rattle.gptman.specs.Disk.{DiskState}
use Rattle.gptman.specs.declared.codec.header.GPTHeader.{GPTHeader}
use Rattle.gptedit_look.specs.declared.raw.RawHeader.{RawHeader}

-- The fields of a header at a byte, without its checksums.
abbrev pub raw_of : ℕ → GPTHeader → RawHeader
raw_of at h = record {
  at = at;
  revision = h.revision;
  header_size = h.header_size;
  my_lba = h.primary_lba;
  other_lba = h.backup_lba;
  first_usable_lba = h.first_usable_lba;
  last_usable_lba = h.last_usable_lba;
  disk_guid = h.disk_guid;
  entries_lba = h.partition_entry_lba;
  count = h.number_of_partition_entries;
  entry_size = h.size_of_partition_entry;
}

-- The bytes `EFI PART`.
abbrev pub efi_part : List ℕ
efi_part = 0x45 ∷ 0x46 ∷ 0x49 ∷ 0x20 ∷ 0x50 ∷ 0x41 ∷ 0x52 ∷ 0x54 ∷ []

-- The header in the 92 bytes at this byte.
abbrev pub header_at : DiskState → ℕ → GPTHeader
header_at disk at = header_of (part disk.view at 92)

-- The fields of a header, if it begins with `EFI PART`.
abbrev pub IsRawOf : ℕ → GPTHeader → Option RawHeader → Type 0
IsRawOf at h (Some raw) = (h.signature ≡ efi_part) × (raw ≡ raw_of at h)
IsRawOf at h None = h.signature ≢ efi_part

-- A header is found at a byte exactly if it begins with `EFI PART` and does not pass the end of the disk.
abbrev pub IsSeenAt : DiskState → ℕ → Option RawHeader → Type 0
IsSeenAt disk at (Some raw) = (at + 92 ≤ disk.size) × IsRawOf at (header_at disk at) (Some raw)
IsSeenAt disk at None = (disk.size < at + 92) ⊎ IsRawOf at (header_at disk at) None
