-- Entries by number, from 1.
use Rattle.std.specs.Prelude.{◌≤◌, ℕ, ◌+◌, ◌-◌, Bool, ◌&&◌, nat_le, if◌then◌else◌, List, ◌++◌, length, take, drop, position, slice_get, slice_index_or, slice_set, Option, Some, None, Result, Err}
use Rattle.std.specs.Option.{option_map}
use Rattle.gptman.specs.Coding.{empty_entry}
use Rattle.gptman.specs.Entry.{bytes_of, covers}
use Rattle.gptman_disk.specs.Fault.{Fault, invalid_partition_number, partition_not_found}
use Rattle.gptman.specs.Table.{entries_in}
use Rattle.gptman.specs.declared.codec.entry.GPTPartitionEntry.{GPTPartitionEntry}
use Rattle.gptman.specs.declared.table.GPT.{GPT}

-- The number is that of an entry of the list.
abbrev pub IsNumber : GPT → ℕ → Type 0
IsNumber g i = (1 ≤ i) × (i ≤ length (entries_in g))

-- The number is at least 1, and within the header's count and the list.
abbrev pub has_number : GPT → ℕ → Bool
has_number g i = nat_le 1 i && nat_le i g.header.number_of_partition_entries && nat_le i (length (entries_in g))

-- The error of a number that is not within the header's count and the list.
abbrev pub number_fault : GPT → ℕ → Option Fault
number_fault g i = if has_number g i then None else Some (invalid_partition_number i)

abbrev pub entry_at : GPT → ℕ → GPTPartitionEntry
entry_at g i = slice_index_or (entries_in g) (i - 1) empty_entry

-- The entry with the number, if the list has one.
abbrev pub entry_of_number : GPT → ℕ → Option GPTPartitionEntry
entry_of_number g i = if nat_le 1 i then slice_get (entries_in g) (i - 1) else None

-- the value with another list of entries
abbrev pub with_entries : GPT → List GPTPartitionEntry → GPT
with_entries g es = record g { partitions = es }

-- The value with this entry as number i.
abbrev pub with_entry : GPT → ℕ → GPTPartitionEntry → GPT
with_entry g i e = with_entries g (slice_set (entries_in g) (i - 1) e)

-- The lowest number of an entry that covers the sector.
abbrev pub number_at : ℕ → List GPTPartitionEntry → Option ℕ
number_at sector es = option_map (λ k. k + 1) (position (covers sector) es)

-- The error of removing the entry of a sector: no entry covers it, or its number is above the header's count.
abbrev pub sector_fault : GPT → Option ℕ → Option Fault
sector_fault g None = Some partition_not_found
sector_fault g (Some i) = number_fault g i

-- The value with the entry of that number, if any, replaced by the unused one.
abbrev pub without : GPT → Option ℕ → GPT
without g None = g
without g (Some i) = with_entry g i empty_entry

-- The first and the last byte of the entry with the number.
abbrev pub byte_range_in : GPT → ℕ → Result (ℕ × ℕ × Bool) Fault
byte_range_in g i = if has_number g i then bytes_of g.sector_size (entry_at g i) else Err (invalid_partition_number i)

-- xs with its first elements overwritten by ws; its length is unchanged.
abbrev pub written_over : {X : Type 0} → List X → List X → List X
written_over xs ws = take (length xs) (ws ++ drop (length ws) xs)
