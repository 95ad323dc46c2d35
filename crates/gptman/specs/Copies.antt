-- The report of `check` on both copies of a table.
use Rattle.std.specs.Prelude.{◌≡◌, ◌⊎◌, ℕ, List, Result, Ok, IsTrue}
use Rattle.gptman.specs.Answers.{answer_of, Fails}
use Rattle.gptman.specs.Copy.{Copy, copy_of_whole}
use Rattle.gptman_disk.specs.Disk.{DiskState, Rose}
use Rattle.gptman_disk.specs.Fault.{Fault}
use Rattle.gptman.specs.Layout.{Holds}
use Rattle.gptman.specs.Reading.{primary, backup, copy_in}
use Rattle.gptman.specs.Table.{Table as DiskTable, table_of, IsHeaderForm}
use Rattle.gptman.specs.Write.{other_header}
use Rattle.gptman.specs.declared.copy.WholeCopy.{WholeCopy}
use Rattle.gptman_disk.specs.declared.error.Error.{Error}
use Rattle.gptman.specs.declared.codec.entry.GPTPartitionEntry.{GPTPartitionEntry}
use Rattle.gptman.specs.declared.codec.header.GPTHeader.{GPTHeader}
use Rattle.gptman.specs.declared.copies.BothCopies.{BothCopies}

-- Both places hold the same table, each in the form of its place.
pub record HoldOneTable (view : List ℕ) (ss : ℕ) : Type 0 where
  pub table : DiskTable
  pub at_primary : Holds view ss primary table
  pub at_backup : Holds view ss backup table

-- A copy that was found, or its fault, unless the disk failed.
abbrev pub IsSeenAs : Result Copy Fault → DiskState → DiskState → Result WholeCopy Error → Type 0
IsSeenAs there old new seen = Fails seen old new ⊎ (answer_of copy_of_whole seen ≡ there)

-- The other header of the first one, with the checksums and the place of the entries of the second.
abbrev pub with_sectors_exchanged : GPTHeader → GPTHeader → GPTHeader
with_sectors_exchanged first second = record (other_header first) {
  crc32_checksum = second.crc32_checksum;
  partition_entry_lba = second.partition_entry_lba;
  partition_entry_array_crc32 = second.partition_entry_array_crc32;
}

-- The headers are those of the same table, the first in primary form and the second in backup form.
pub record AreBothForms (first second : GPTHeader) : Type 0 where
  pub at_primary : IsHeaderForm primary first
  pub at_backup : IsHeaderForm backup second
  pub same : (es : List GPTPartitionEntry) → table_of second es ≡ table_of first es

-- The copies are the same table, the first in primary form and the second in backup form.
pub record AreOneTable (first second : Copy) : Type 0 where
  pub forms : AreBothForms first.header second.header
  pub entries : first.entries ≡ second.entries

-- Both copies were found, and are the same table.
abbrev pub AreFoundSame : Result Copy Fault → Result Copy Fault → Type 0
AreFoundSame (Ok first) (Ok second) = AreOneTable first second
AreFoundSame _ _ = ⊥

-- The copies that were found, unless the disk failed: each copy or its fault, and whether both places hold the same
-- table.
pub record IsChecked (ss : ℕ) (old new : DiskState) (copies : BothCopies) : Type 0 where
  pub at_primary : IsSeenAs (copy_in primary old.view ss) old new copies.primary
  pub at_backup : IsSeenAs (copy_in backup old.view ss) old new copies.backup
  pub same : IsTrue copies.are_same → HoldOneTable old.view ss × AreFoundSame (answer_of copy_of_whole copies.primary) (answer_of copy_of_whole copies.backup)
  pub differ : HoldOneTable old.view ss → IsTrue copies.are_same ⊎ Rose old new
