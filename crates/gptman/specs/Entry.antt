-- Whether an entry is used, and which sectors and bytes it has.
use Rattle.std.specs.Prelude.{ℕ, ◌+◌, ◌-◌, ◌*◌, ◌^◌, Bool, false, ◌&&◌, not, nat_eq, nat_le, nat_lt, if◌then◌else◌, List, Option, Some, None, Result, Ok, Err}
use Rattle.std.specs.List.{list_all}
use Rattle.std.specs.Range.{range_inclusive_start, range_inclusive_end, range_inclusive_exhausted}
use Rattle.std.specs.declared.ops.RangeInclusive.{RangeInclusive}
use Rattle.gptman_disk.specs.Fault.{Fault, invalid_partition_boundaries, unused_partition, overflow}
use Rattle.gptman.specs.declared.codec.entry.GPTPartitionEntry.{GPTPartitionEntry}

-- The type GUID is all zero.
abbrev pub is_unused : GPTPartitionEntry → Bool
is_unused e = list_all (λ x. nat_eq x 0) e.partition_type_guid

abbrev pub is_used : GPTPartitionEntry → Bool
is_used e = not (is_unused e)

-- The entry is used and covers the sector. An entry that ends before it starts covers none.
abbrev pub covers : ℕ → GPTPartitionEntry → Bool
covers sector e = is_used e && nat_le e.starting_lba sector && nat_le sector e.ending_lba

-- The first and the last sector that the entry covers, if it covers any.
abbrev pub covered_range : GPTPartitionEntry → Option (ℕ × ℕ)
covered_range e = if is_used e && nat_le e.starting_lba e.ending_lba then Some (e.starting_lba, e.ending_lba) else None

-- The unique GUID of a used entry.
abbrev pub used_guid : GPTPartitionEntry → Option (List ℕ)
used_guid e = if is_used e then Some e.unique_partition_guid else None

-- The two ends of a range, and whether its iteration has ended.
abbrev pub ends_of : RangeInclusive ℕ → ℕ × ℕ × Bool
ends_of r = (range_inclusive_start r, range_inclusive_end r, range_inclusive_exhausted r)

-- The length of the entry in sectors.
abbrev pub size_of : GPTPartitionEntry → Result ℕ Fault
size_of e =
    if nat_lt e.ending_lba e.starting_lba then Err invalid_partition_boundaries
    else if nat_lt (e.ending_lba - e.starting_lba + 1) (2 ^ 64) then Ok (e.ending_lba - e.starting_lba + 1) else Err overflow

-- The first and the last sector of the entry.
abbrev pub sectors_of : GPTPartitionEntry → Result (ℕ × ℕ × Bool) Fault
sectors_of e =
    if is_unused e then Err unused_partition
    else if nat_lt e.ending_lba e.starting_lba then Err invalid_partition_boundaries else Ok (e.starting_lba, e.ending_lba, false)

-- The first and the last byte of the entry, with sectors of ss bytes.
abbrev pub bytes_of : ℕ → GPTPartitionEntry → Result (ℕ × ℕ × Bool) Fault
bytes_of ss e =
    if is_unused e then Err unused_partition
    else if nat_lt e.ending_lba e.starting_lba then Err invalid_partition_boundaries
    else if nat_lt (e.ending_lba * ss + ss - 1) (2 ^ 64) then Ok (e.starting_lba * ss, e.ending_lba * ss + ss - 1, false) else Err overflow
