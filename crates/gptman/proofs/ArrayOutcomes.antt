-- The result of reading the entries of a header, by case.
use Rattle.std.proofs.Common.{◌≡◌, ◌≢◌, ◌≤◌, ◌<◌, ◌⊎◌, ◌+◌, ◌*◌, ⊎_elim, ℕ, List, length, Err, sym, ap, ◌∙◌, inl, inr, arith}
use Rattle.gptman_disk.specs.Bytes.{part}
use Rattle.gptman.specs.Copy.{array_result}
use Rattle.gptman_disk.specs.Disk.{DiskState, Rose, Keeps}
use Rattle.gptman_disk.specs.Fault.{Fault, io, out_of_memory}
use Rattle.gptman.specs.Reads.{IsBlockFault, IsSeekFault, wrong_size, too_far, past_end, disk_failed, IsReadyFor, empty, there}
use Rattle.gptman.specs.declared.codec.header.GPTHeader.{GPTHeader}
use Rattle.gptman.proofs.Runs.{rose_since}
use Rattle.gptman.proofs.CopyTests.{IsInPlace, array_size_wrong, array_beyond, array_short}
use Rattle.gptman.proofs.CopyTests.{entries_start, entries_length}

-- An error: the disk failed, memory ran out, or it is the one of the definition.
abbrev pub IsOutcome : List ℕ → ℕ → GPTHeader → Fault → DiskState → DiskState → Type 0
IsOutcome b ss h fault old new = ((fault ≡ io) × Rose old new) ⊎ ((fault ≡ out_of_memory) ⊎ (Err fault ≡ array_result b ss h))

-- The seek to the entries failed.
pub seek_refused : (b : List ℕ) (ss : ℕ) (h : GPTHeader) (fault : Fault) (old new : DiskState) → length b ≡ old.size → IsSeekFault h ss fault old new → IsOutcome b ss h fault old new
seek_refused b ss h fault old new size (wrong_size are is) = inr (inr (ap Err is ∙ sym (array_size_wrong b ss h are.some are.wrong)))
seek_refused b ss h fault old new size (too_far they is) = inr (inr (ap Err is ∙ sym (array_beyond b ss h they.some they.entry_size they.far)))
seek_refused b ss h fault old new size (past_end is they) =
    inr (inr (ap Err is ∙ sym (array_short b ss h they.some they.entry_size they.fits (omega (arith, size, they.past)))))
seek_refused b ss h fault old new size (disk_failed is rose) = inl (is, rose)

-- A block is past the end of the disk.
short_refused : (b : List ℕ) (ss : ℕ) (h : GPTHeader) (mid : DiskState) → IsReadyFor h ss mid → length b ≡ mid.size → mid.size < mid.position + 128 * h.number_of_partition_entries
    → h.number_of_partition_entries ≢ 0 → array_result b ss h ≡ Err io
short_refused b ss h mid (empty none) size short some = absurd (some none)
short_refused b ss h mid (there right fits at) size short some = array_short b ss h some right fits (omega (arith, size, short, at))

-- A block could not be read.
pub block_refused : (b : List ℕ) (ss : ℕ) (h : GPTHeader) (fault : Fault) (old mid new : DiskState) → IsReadyFor h ss mid → length b ≡ mid.size → Keeps old mid
    → h.number_of_partition_entries ≢ 0 → IsBlockFault (128 * h.number_of_partition_entries) fault mid new → IsOutcome b ss h fault old new
block_refused b ss h fault old mid new ready size first some (inl memory) = inr (inl memory)
block_refused b ss h fault old mid new ready size first some (inr (is, cause)) = ⊎_elim
    (λ rose. inl (is, rose_since old mid new first rose))
    (λ short. inr (inr (ap Err is ∙ sym (short_refused b ss h mid ready size short some))))
    cause

-- All entries were read.
pub in_place : (b : List ℕ) (ss : ℕ) (h : GPTHeader) (mid : DiskState) → IsReadyFor h ss mid → length b ≡ mid.size
    → (h.number_of_partition_entries ≡ 0) ⊎ (mid.position + 128 * h.number_of_partition_entries ≤ mid.size) → IsInPlace b ss h
in_place b ss h mid (empty none) size within = record { size = inl none; fits = inl none; inside = inl none }
in_place b ss h mid (there right fits at) size within = record {
  size = inr right;
  fits = inr fits;
  inside = ⊎_elim (λ none. inl none) (λ fits. inr (omega (arith, fits, size, at))) within;
}

-- The bytes that were read are those of the array.
pub array_read : (b : List ℕ) (ss : ℕ) (h : GPTHeader) (mid : DiskState) → IsReadyFor h ss mid → part b mid.position (128 * h.number_of_partition_entries) ≡ part b (entries_start h ss) (entries_length h)
array_read b ss h mid (empty none) =
    ap (λ (n : ℕ). part b mid.position (128 * n)) none ∙ sym (ap (λ (n : ℕ). part b (entries_start h ss) (128 * n)) none)
array_read b ss h mid (there right fits at) = ap (λ (k : ℕ). part b k (entries_length h)) at
