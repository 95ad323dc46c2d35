-- Errors of reading the entries of a header.
use Rattle.std.specs.Prelude.{◌≡◌, ◌≢◌, ◌≤◌, ◌<◌, ◌⊎◌, ◌+◌, ◌^◌, ℕ, ◌*◌}
use Rattle.gptman_disk.specs.Disk.{DiskState, PassesEnd, Rose}
use Rattle.gptman_disk.specs.Fault.{Fault, io, overflow, out_of_memory, invalid_entry_size}
use Rattle.gptman.specs.declared.codec.header.GPTHeader.{GPTHeader}

-- The errors of a block of len bytes: allocation failure, or the disk failed or ends before.
abbrev pub IsBlockFault : ℕ → Fault → DiskState → DiskState → Type 0
IsBlockFault len fault old new = (fault ≡ out_of_memory) ⊎ ((fault ≡ io) × (Rose old new ⊎ PassesEnd old len))

-- The header has entries, and their size is not 128.
pub record HasWrongSize (h : GPTHeader) : Type 0 where
  pub some : h.number_of_partition_entries ≢ 0
  pub wrong : h.size_of_partition_entry ≢ 128

-- The header's entries, of the right size, begin at a byte that does not fit in 64 bits.
pub record BeginsTooFar (h : GPTHeader) (ss : ℕ) : Type 0 where
  pub some : h.number_of_partition_entries ≢ 0
  pub entry_size : h.size_of_partition_entry ≡ 128
  pub far : 2 ^ 64 ≤ h.partition_entry_lba * ss

-- The header's entries, of the right size and at a byte that fits in 64 bits, pass the end of a disk of `size` bytes.
pub record PassTheEnd (h : GPTHeader) (ss size : ℕ) : Type 0 where
  pub some : h.number_of_partition_entries ≢ 0
  pub entry_size : h.size_of_partition_entry ≡ 128
  pub fits : h.partition_entry_lba * ss < 2 ^ 64
  pub past : size < h.partition_entry_lba * ss + 128 * h.number_of_partition_entries

-- The header has entries, and they pass the end of a disk of `size` bytes.
abbrev pub HasTooMany : GPTHeader → ℕ → ℕ → Type 0
HasTooMany h ss size = (h.number_of_partition_entries ≢ 0) × (size < h.partition_entry_lba * ss + 128 * h.number_of_partition_entries)

-- The header's entries have the right size, unless there are none.
abbrev pub HasEntrySize : GPTHeader → Type 0
HasEntrySize h = (h.number_of_partition_entries ≡ 0) ⊎ (h.size_of_partition_entry ≡ 128)

-- The errors of the seek to the entries: their size or place is wrong, they pass the end of the disk, or it failed.
pub data IsSeekFault (h : GPTHeader) (ss : ℕ) (fault : Fault) (old new : DiskState) : Type 0 where
  wrong_size : HasWrongSize h → fault ≡ invalid_entry_size h.size_of_partition_entry → IsSeekFault h ss fault old new
  too_far : BeginsTooFar h ss → fault ≡ overflow → IsSeekFault h ss fault old new
  past_end : fault ≡ io → PassTheEnd h ss old.size → IsSeekFault h ss fault old new
  disk_failed : fault ≡ io → Rose old new → IsSeekFault h ss fault old new

-- There are no entries to read, or the disk's position is at the first one.
pub data IsReadyFor (h : GPTHeader) (ss : ℕ) (disk : DiskState) : Type 0 where
  empty : h.number_of_partition_entries ≡ 0 → IsReadyFor h ss disk
  there : h.size_of_partition_entry ≡ 128 → h.partition_entry_lba * ss < 2 ^ 64 → disk.position ≡ h.partition_entry_lba * ss → IsReadyFor h ss disk
