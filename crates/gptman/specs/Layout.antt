-- The stated layout of a disk, and where a table is in it.
use Rattle.std.specs.Prelude.{◌≡◌, ◌≤◌, ◌<◌, ◌+◌, ◌-◌, ◌*◌, ◌/◌, ◌^◌, ℕ, List, [], ◌∷◌, ◌++◌, length, min, max, Ok}
use Rattle.gptman.specs.Copy.{Copy, right_signature, right_revision}
use Rattle.gptman.specs.Reading.{CopyPlace, primary, backup, copy_start, copy_in}
use Rattle.gptman.specs.Table.{Table, table_in, IsForm, IsHeaderForm}
use Rattle.gptman.specs.declared.codec.entry.GPTPartitionEntry.{GPTPartitionEntry}
use Rattle.gptman.specs.declared.codec.header.GPTHeader.{GPTHeader}
use Rattle.gptman.specs.declared.table.GPT.{GPT}
use Rattle.gptman_disk.specs.Ranges.{AreApart, AreInside}

-- The two ranges of a table at a place of a disk of len bytes, as (start, length): its header, and its entries from
-- sector 2 on or after the last usable sector.
abbrev pub copy_ranges_at : CopyPlace → Table → ℕ → ℕ → List (ℕ × ℕ)
copy_ranges_at side t ss len =
    (copy_start side len ss, 92) ∷ (elim side [ primary ↦ 2 * ss | backup ↦ (t.last_usable_lba + 1) * ss ], 128 * t.count) ∷ []

-- The stated layout, of a table and therefore of both its forms.
pub record IsLaidOut (t : Table) (ss len : ℕ) : Type 0 where
  pub sector : 92 ≤ ss
  pub signature : t.signature ≡ right_signature
  pub revision : t.revision ≡ right_revision
  pub header_size : t.header_size ≡ 92
  pub entry_size : t.entry_size ≡ 128
  pub entries : length t.entries ≡ t.count
  pub low_sector : t.low_sector ≡ min 1 (len / ss - 1)
  pub high_sector : t.high_sector ≡ max 1 (len / ss - 1)
  pub inside : AreInside (copy_ranges_at primary t ss len ++ copy_ranges_at backup t ss len) len
  pub apart : AreApart (copy_ranges_at primary t ss len ++ copy_ranges_at backup t ss len)
  pub fits : t.last_usable_lba + 1 < 2 ^ 64

-- The signature and the revision of the header are right.
pub record HasRightMarks (h : GPTHeader) : Type 0 where
  pub signature : h.signature ≡ right_signature
  pub revision : h.revision ≡ right_revision

-- A sector has room for a header, and the header describes the list of entries.
pub record HasRightSizes (h : GPTHeader) (es : List GPTPartitionEntry) (ss : ℕ) : Type 0 where
  pub sector : 92 ≤ ss
  pub header_size : h.header_size ≡ 92
  pub entry_size : h.size_of_partition_entry ≡ 128
  pub entries : length es ≡ h.number_of_partition_entries

-- The two headers are in sector 1 and in the last whole sector.
pub record HasRightSectors (t : Table) (ss len : ℕ) : Type 0 where
  pub low : t.low_sector ≡ min 1 (len / ss - 1)
  pub high : t.high_sector ≡ max 1 (len / ss - 1)

-- The four ranges are on the disk and disjoint.
pub record AreInPlace (t : Table) (ss len : ℕ) : Type 0 where
  pub inside : AreInside (copy_ranges_at primary t ss len ++ copy_ranges_at backup t ss len) len
  pub apart : AreApart (copy_ranges_at primary t ss len ++ copy_ranges_at backup t ss len)
  pub fits : t.last_usable_lba + 1 < 2 ^ 64

-- The value has the stated layout on a disk of len bytes: its table has it, and its header is in one of the two forms.
pub record HasLayout (g : GPT) (len : ℕ) : Type 0 where
  pub table : IsLaidOut (table_in g) g.sector_size len
  pub side : CopyPlace
  pub form : IsHeaderForm side g.header

-- The copy at the place is accepted, and is the table in the form of that place.
pub record Holds (b : List ℕ) (ss : ℕ) (side : CopyPlace) (t : Table) : Type 0 where
  pub copy : Copy
  pub accepted : copy_in side b ss ≡ Ok copy
  pub form : IsForm side t copy
