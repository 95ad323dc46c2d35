-- The structs that are shared with C, in terms of the library.
use Rattle.std.specs.Prelude.{◌≡◌, ◌++◌, ◌+◌, ◌-◌, ◌^◌, ℕ, List, length, map, min, replicate, take, Option, Result, Ok, Err}
use Rattle.gptman.specs.Alignment.{IsAlignment}
use Rattle.gptman.specs.Copy.{Copy}
use Rattle.gptman.specs.Fault.{Fault}
use Rattle.gptman.specs.Layout.{copy_ranges_at}
use Rattle.gptman.specs.Place.{FindsPlace, IsBestPlace, IsFirstPlace, IsLastPlace}
use Rattle.gptman.specs.Reading.{CopyPlace, primary, backup}
use Rattle.gptman.specs.Table.{Table as TheTable, TableEntry, entries_in}
use Rattle.gptman.specs.declared.table.GPT.{GPT}
use Rattle.gptman.specs.declared.codec.entry.GPTPartitionEntry.{GPTPartitionEntry}
use Rattle.gptman.specs.declared.codec.header.GPTHeader.{GPTHeader}
use Rattle.gptman.specs.Fault.{fault_number}
use Rattle.gptman_plan.specs.declared.records.Partition.{Partition}
use Rattle.gptman_plan.specs.declared.records.Table.{Table}

-- an entry in the form of C
abbrev pub partition_of : GPTPartitionEntry → Partition
partition_of e = record {
  type_guid = e.partition_type_guid;
  unique_guid = e.unique_partition_guid;
  first_lba = e.starting_lba;
  last_lba = e.ending_lba;
  attributes = e.attribute_bits;
  name = e.partition_name.units;
}

-- the content of an entry in the form of C
abbrev pub content_of : Partition → TableEntry
content_of p = record {
  partition_type_guid = p.type_guid;
  unique_partition_guid = p.unique_guid;
  starting_lba = p.first_lba;
  ending_lba = p.last_lba;
  attribute_bits = p.attributes;
  units = p.name;
}

-- the content of an entry
abbrev pub content_in : GPTPartitionEntry → TableEntry
content_in e = record {
  partition_type_guid = e.partition_type_guid;
  unique_partition_guid = e.unique_partition_guid;
  starting_lba = e.starting_lba;
  ending_lba = e.ending_lba;
  attribute_bits = e.attribute_bits;
  units = e.partition_name.units;
}

-- the four ranges of a table on a disk of len bytes
abbrev pub four_ranges : TheTable → ℕ → ℕ → List (ℕ × ℕ)
four_ranges t ss len = copy_ranges_at primary t ss len ++ copy_ranges_at backup t ss len

-- the number of a place in C
abbrev pub copy_place_number : CopyPlace → ℕ
copy_place_number primary = 0
copy_place_number backup = 1

-- The sectors of both copies, by the header that was read from this place. It does not state where the entries of the
-- other copy are: they are at the sector from which a write stores them.
abbrev pub HasPlaces : CopyPlace → GPTHeader → Table → Type 0
HasPlaces primary h t =
    (t.primary_header_lba ≡ h.primary_lba) × (t.primary_entries_lba ≡ h.partition_entry_lba) × (t.backup_header_lba ≡ h.backup_lba) × (t.backup_entries_lba ≡ min (h.last_usable_lba + 1) (2 ^ 64 - 1))
HasPlaces backup h t =
    (t.primary_header_lba ≡ h.backup_lba) × (t.primary_entries_lba ≡ 2) × (t.backup_header_lba ≡ h.primary_lba) × (t.backup_entries_lba ≡ h.partition_entry_lba)

-- The result of a read that selected this copy, at this place: the fields of its header, and its entries at the start of
-- the array.
pub record IsReturned (taken : Result Copy Fault) (side : CopyPlace) (table : Table) (partitions : List Partition) : Type 0 where
  pub copy : Copy
  pub taken_is : taken ≡ Ok copy
  pub disk_guid : table.disk_guid ≡ copy.header.disk_guid
  pub first_usable : table.first_usable_lba ≡ copy.header.first_usable_lba
  pub last_usable : table.last_usable_lba ≡ copy.header.last_usable_lba
  pub align : IsAlignment copy.header copy.entries table.align
  pub count : table.entry_count ≡ copy.header.number_of_partition_entries
  pub from : table.is_backup ≡ copy_place_number side
  pub places : HasPlaces side copy.header table
  pub reserved : table.reserved ≡ replicate 6 0
  pub partitions_are : take (length copy.entries) partitions ≡ map partition_of copy.entries

-- The read selected a copy with this number of entries.
pub record HasCount (taken : Result Copy Fault) (count : ℕ) : Type 0 where
  pub copy : Copy
  pub taken_is : taken ≡ Ok copy
  pub count_is : copy.header.number_of_partition_entries ≡ count

-- The read selected no copy, and its fault has this number.
pub record IsRefused (taken : Result Copy Fault) (number : ℕ) : Type 0 where
  pub fault : Fault
  pub taken_is : taken ≡ Err fault
  pub number_is : fault_number fault ≡ number

-- The place that is found for a partition of `size` sectors: the chosen one of the free places within the bounds of the
-- table, if there is one.
pub record IsOffer (table : Table) (partitions : List Partition) (choice size : ℕ) (found : Option ℕ) : Type 0 where
  pub held : GPT
  pub low : held.header.first_usable_lba ≡ table.first_usable_lba
  pub high : held.header.last_usable_lba ≡ table.last_usable_lba
  pub align : held.align ≡ table.align
  pub contents : map content_in (entries_in held) ≡ map content_of partitions
  pub first : choice ≡ 1 → FindsPlace IsFirstPlace held size found
  pub last : choice ≡ 2 → FindsPlace IsLastPlace held size found
  pub best : choice ≡ 3 → FindsPlace IsBestPlace held size found
