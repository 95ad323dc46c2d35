-- A copy: a header and its entries at their places on the disk.
use Rattle.std.specs.Prelude.{◌≡◌, ◌≤◌, ◌<◌, ◌⊎◌, ◌+◌, ◌*◌, ◌^◌, ◌||◌, ℕ, Bool, List, [], ◌∷◌, ◌++◌, length, take, drop, map, replicate, get_or, nat_eq, nat_le, nat_lt, bytes_eq, Option, Some, None, Result, Ok, Err, if◌then◌else◌}
use Rattle.std.specs.List.{range_with_len}
use Rattle.gptman_disk.specs.Bytes.{part}
use Rattle.gptman.specs.Coding.{IsHeaderCoding, IsEntryCoding, HasReadName, header_bytes, array_bytes, header_of, entry_of}
use Rattle.gptman.specs.Crc.{crc_of}
use Rattle.gptman_disk.specs.Fault.{Fault, io, invalid_signature, invalid_revision, invalid_header_size, invalid_checksum, invalid_entry_size, overflow, invalid_array_checksum, first_failing}
use Rattle.gptman.specs.declared.copy.WholeCopy.{WholeCopy}
use Rattle.gptman.specs.declared.codec.header.GPTHeader.{GPTHeader}
use Rattle.gptman.specs.declared.codec.entry.GPTPartitionEntry.{GPTPartitionEntry}

-- The text "EFI PART".
abbrev pub right_signature : List ℕ
right_signature = 0x45 ∷ 0x46 ∷ 0x49 ∷ 0x20 ∷ 0x50 ∷ 0x41 ∷ 0x52 ∷ 0x54 ∷ []

abbrev pub right_revision : List ℕ
right_revision = 0 ∷ 0 ∷ 1 ∷ 0 ∷ []

-- The checksum of a header's 92 bytes, with bytes 16 to 19 as zero.
abbrev pub header_crc : List ℕ → ℕ
header_crc x = crc_of (take 16 x ++ replicate 4 0 ++ drop 20 x)

-- This header is at byte p, with the right signature, revision, size and checksum.
pub record HeaderAt (b : List ℕ) (p : ℕ) (h : GPTHeader) : Type 0 where
  pub inside : p + 92 ≤ length b
  pub coding : IsHeaderCoding h (part b p 92)
  pub signature : h.signature ≡ right_signature
  pub revision : h.revision ≡ right_revision
  pub header_size : h.header_size ≡ 92
  pub checksum : h.crc32_checksum ≡ header_crc (part b p 92)

-- This header is at byte p, and these entries, with the right checksum, are at the place that it names.
pub record CopyAt (b : List ℕ) (p ss : ℕ) (h : GPTHeader) (es : List GPTPartitionEntry) : Type 0 where
  pub header : HeaderAt b p h
  pub count : length es ≡ h.number_of_partition_entries
  pub entry_size : (h.number_of_partition_entries ≡ 0) ⊎ (h.size_of_partition_entry ≡ 128)
  pub inside : (h.number_of_partition_entries ≡ 0) ⊎ (h.partition_entry_lba * ss + 128 * h.number_of_partition_entries ≤ length b)
  pub coding : (i : ℕ) (e : GPTPartitionEntry) → i < length es → IsEntryCoding (get_or es i e) (part b (h.partition_entry_lba * ss + 128 * i) 128)
  pub names : (i : ℕ) (e : GPTPartitionEntry) → i < length es → HasReadName (get_or es i e)
  pub checksum : h.partition_entry_array_crc32 ≡ crc_of (part b (h.partition_entry_lba * ss) (128 * h.number_of_partition_entries))

-- The four tests of the values of a header whose bytes are x.
abbrev pub value_tests : GPTHeader → List ℕ → List (Bool × Fault)
value_tests h x =
    (bytes_eq h.signature right_signature, invalid_signature)
    ∷ (bytes_eq h.revision right_revision, invalid_revision)
    ∷ (nat_eq h.header_size 92, invalid_header_size)
    ∷ (nat_eq h.crc32_checksum (header_crc x), invalid_checksum h.crc32_checksum (header_crc x))
    ∷ []

-- The five tests of a header at byte p of a disk of len bytes, whose bytes are x.
abbrev pub header_tests : ℕ → ℕ → List ℕ → List (Bool × Fault)
header_tests len p x = (nat_le (p + 92) len, io) ∷ value_tests (header_of x) x

-- The four tests of a header's entries on a disk of len bytes, whose bytes are y.
abbrev pub array_tests : ℕ → ℕ → GPTHeader → List ℕ → List (Bool × Fault)
array_tests len ss h y =
    let none = nat_eq h.number_of_partition_entries 0 in
    (none || nat_eq h.size_of_partition_entry 128, invalid_entry_size h.size_of_partition_entry)
    ∷ (none || nat_lt (h.partition_entry_lba * ss) (2 ^ 64), overflow)
    ∷ (none || nat_le (h.partition_entry_lba * ss + 128 * h.number_of_partition_entries) len, io)
    ∷ (nat_eq h.partition_entry_array_crc32 (crc_of y), invalid_array_checksum h.partition_entry_array_crc32 (crc_of y))
    ∷ []

pub record Copy : Type 0 where
  pub header : GPTHeader
  pub entries : List GPTPartitionEntry

-- The n entries that the bytes encode.
unfoldable pub entries_of : List ℕ → ℕ → List GPTPartitionEntry
entries_of y n = map (λ i. entry_of (part y (128 * i) 128)) (range_with_len 0 n)

-- The copy at byte p, if its header and entries pass all nine tests, or the fault of the first that fails.
unfoldable pub copy_at : List ℕ → ℕ → ℕ → Result Copy Fault
copy_at b p ss =
    let x = part b p 92 in
    let h = header_of x in
    let y = part b (h.partition_entry_lba * ss) (128 * h.number_of_partition_entries) in
    elim (first_failing (header_tests (length b) p x ++ array_tests (length b) ss h y)) [
      | None ↦ Ok (record { header = h; entries = entries_of y h.number_of_partition_entries })
      | Some fault ↦ Err fault
    ]

-- The value if there is no fault, else the fault.
abbrev pub unless : {X : Type 0} → Option Fault → X → Result X Fault
unless None x = Ok x
unless (Some fault) x = Err fault

-- The header at byte p, or its fault.
unfoldable pub header_result : List ℕ → ℕ → Result GPTHeader Fault
header_result b p = let x = part b p 92 in unless (first_failing (header_tests (length b) p x)) (header_of x)

-- The entries of a header, or their fault.
unfoldable pub array_result : List ℕ → ℕ → GPTHeader → Result (List GPTPartitionEntry) Fault
array_result b ss h =
    let y = part b (h.partition_entry_lba * ss) (128 * h.number_of_partition_entries) in
    unless (first_failing (array_tests (length b) ss h y)) (entries_of y h.number_of_partition_entries)

-- The entry at byte p, without tests of its values.
unfoldable pub entry_result : List ℕ → ℕ → Result GPTPartitionEntry Fault
entry_result b p = if nat_le (p + 128) (length b) then Ok (entry_of (part b p 128)) else Err io

-- A header with both checksums computed for these entries.
unfoldable pub with_checksums : GPTHeader → List GPTPartitionEntry → GPTHeader
with_checksums h es =
    let summed : GPTHeader = record h { partition_entry_array_crc32 = crc_of (array_bytes es) } in
    record summed { crc32_checksum = header_crc (header_bytes summed) }

-- The header describes the entries: its size is 92, its count their number, and its entry size 128 unless there are
-- none.
pub record IsCoherent (h : GPTHeader) (es : List GPTPartitionEntry) : Type 0 where
  pub header_size : h.header_size ≡ 92
  pub count : length es ≡ h.number_of_partition_entries
  pub entry_size : (h.size_of_partition_entry ≡ 128) ⊎ (h.number_of_partition_entries ≡ 0)

-- The copy that was read.
abbrev pub copy_of_whole : WholeCopy → Copy
copy_of_whole whole = record { header = whole.header; entries = whole.entries.items }
