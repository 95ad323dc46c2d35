-- A table, whichever of its two forms is read.
use Rattle.std.specs.Prelude.{◌≡◌, ◌⊎◌, ◌+◌, ℕ, List, replicate, map, min, max}
use Rattle.gptman.specs.Coding.{empty_entry}
use Rattle.gptman.specs.Fit.{new_header_of, fit_header}
use Rattle.gptman.specs.Copy.{Copy}
use Rattle.gptman.specs.Reading.{CopyPlace, primary, backup}
use Rattle.gptman.specs.declared.codec.header.GPTHeader.{GPTHeader}
use Rattle.gptman.specs.declared.codec.entry.GPTPartitionEntry.{GPTPartitionEntry}
use Rattle.gptman.specs.declared.table.GPT.{GPT}

-- An entry, without the text that its name has in memory.
pub record TableEntry : Type 0 where
  pub partition_type_guid : List ℕ
  pub unique_partition_guid : List ℕ
  pub starting_lba : ℕ
  pub ending_lba : ℕ
  pub attribute_bits : ℕ
  pub units : List ℕ

-- A table, without checksums and without the differences of its two forms. The sectors of its headers are an unordered
-- pair, stored with the lower one first.
pub record Table : Type 0 where
  pub signature : List ℕ
  pub revision : List ℕ
  pub header_size : ℕ
  pub reserved : List ℕ
  pub low_sector : ℕ
  pub high_sector : ℕ
  pub first_usable_lba : ℕ
  pub last_usable_lba : ℕ
  pub disk_guid : List ℕ
  pub count : ℕ
  pub entry_size : ℕ
  pub entries : List TableEntry

-- The table of a header and entries.
abbrev pub table_of : GPTHeader → List GPTPartitionEntry → Table
table_of h es = record {
  signature = h.signature;
  revision = h.revision;
  header_size = h.header_size;
  reserved = h.reserved;
  low_sector = min h.primary_lba h.backup_lba;
  high_sector = max h.primary_lba h.backup_lba;
  first_usable_lba = h.first_usable_lba;
  last_usable_lba = h.last_usable_lba;
  disk_guid = h.disk_guid;
  count = h.number_of_partition_entries;
  entry_size = h.size_of_partition_entry;
  entries = map (λ (e : GPTPartitionEntry). record {
    partition_type_guid = e.partition_type_guid;
    unique_partition_guid = e.unique_partition_guid;
    starting_lba = e.starting_lba;
    ending_lba = e.ending_lba;
    attribute_bits = e.attribute_bits;
    units = e.partition_name.units;
  }) es;
}

-- The entries of a value, in order.
abbrev pub entries_in : GPT → List GPTPartitionEntry
entries_in g = g.partitions

-- The table of a value.
abbrev pub table_in : GPT → Table
table_in g = table_of g.header g.partitions

-- The header is in this form: in sector 1 with its entries from sector 2, or in the other sector with its entries after
-- the last usable one.
abbrev pub IsHeaderForm : CopyPlace → GPTHeader → Type 0
IsHeaderForm primary h = (h.primary_lba ≡ 1) × (h.partition_entry_lba ≡ 2)
IsHeaderForm backup h = (h.backup_lba ≡ 1) × (h.partition_entry_lba ≡ h.last_usable_lba + 1)

-- The header is in one of the two forms.
abbrev pub IsInForm : GPTHeader → Type 0
IsInForm h = IsHeaderForm primary h ⊎ IsHeaderForm backup h

-- The copy is the table, in the form of that place.
pub record IsForm (side : CopyPlace) (t : Table) (copy : Copy) : Type 0 where
  pub table : table_of copy.header copy.entries ≡ t
  pub form : IsHeaderForm side copy.header

-- A new table of `count` unused entries, for a disk of len bytes.
abbrev pub new_table_of : ℕ → List ℕ → ℕ → ℕ → GPT
new_table_of count guid ss len = record {
  sector_size = ss;
  header = fit_header (new_header_of count guid) ss len;
  partitions = replicate count empty_entry;
  align = 2048;
}

-- A new table of 128 unused entries.
abbrev pub new_table : List ℕ → ℕ → ℕ → GPT
new_table guid ss len = new_table_of 128 guid ss len

-- The value with its header fitted to a disk of len bytes.
abbrev pub grow_to : GPT → ℕ → GPT
grow_to g len = record g { header = fit_header g.header g.sector_size len }
