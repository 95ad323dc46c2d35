-- The layout that describes a table.
use Rattle.std.specs.Prelude.{◌≡◌, ℕ, ◌+◌, ◌-◌, ◌^◌, ◌&&◌, nat_le, nat_lt, false, if◌then◌else◌, List, [], ◌∷◌, Some}
use Rattle.std.specs.List.{enumerate_from}
use Rattle.gptman.specs.Entry.{is_used}
use Rattle.gptman.specs.Table.{entries_in}
use Rattle.gptman.specs.declared.codec.entry.GPTPartitionEntry.{GPTPartitionEntry}
use Rattle.gptman.specs.declared.table.GPT.{GPT}
use Rattle.gptedit_core.specs.declared.amount.Amount.TheVariants.{Sectors}
use Rattle.gptedit_core.specs.declared.asked.Asked.{Asked}
use Rattle.gptedit_core.specs.declared.asked.Choice.TheVariants.{First}
use Rattle.gptedit_core.specs.declared.asked.RequestedLayout.{RequestedLayout}
use Rattle.gptedit_core.specs.declared.asked.Mode.TheVariants.{Become}
use Rattle.gptedit_core.specs.declared.asked.Size.TheVariants.{Exactly}

-- The number of sectors from first to last, or 0 if there are none or if the number exceeds 64 bits.
abbrev pub more_sectors : ℕ → ℕ → ℕ
more_sectors first last = if nat_le first last && nat_lt (last - first) (2 ^ 64 - 1) then last - first + 1 else 0

-- The request that leaves entry i unchanged.
abbrev pub asked_of : ℕ → GPTPartitionEntry → Asked
asked_of i e = record {
  number = Some i;
  type_guid = Some e.partition_type_guid;
  unique_guid = Some e.unique_partition_guid;
  attributes = Some e.attribute_bits;
  name = Some e.partition_name;
  start = Some (Sectors e.starting_lba);
  size = Some (Exactly (Sectors (more_sectors e.starting_lba e.ending_lba)));
  choice = First;
}

-- The requests that leave all used entries unchanged.
abbrev pub asked_of_all : List (ℕ × GPTPartitionEntry) → List Asked
asked_of_all [] = []
asked_of_all (e ∷ es) = if is_used e.1 then asked_of e.0 e.1 ∷ asked_of_all es else asked_of_all es

-- The layout has the GUID of the disk and requests each used entry unchanged. It replaces and removes nothing.
pub record IsLayoutOf (g : GPT) (layout : RequestedLayout) : Type 0 where
  pub mode : layout.mode ≡ Become false
  pub disk_guid : layout.disk_guid ≡ Some g.header.disk_guid
  pub align : layout.align ≡ Sectors g.align
  pub removed : layout.removed.items ≡ []
  pub asked : layout.asked.items ≡ asked_of_all (enumerate_from 1 (entries_in g))
