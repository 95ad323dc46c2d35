-- The report on a table that was read from a disk.
use Rattle.std.specs.Prelude.{ℕ, Option}
use Rattle.gptman.specs.Disk.{DiskState}
use Rattle.gptman.specs.Place.{AreSlots, IsFreeIn}
use Rattle.gptman.specs.declared.table.GPT.{GPT}
use Rattle.gptman_change.specs.Reads.{IsReadFrom}
use Rattle.gptimg_core.specs.declared.commands.Report.{Report}
use Rattle.gptimg_core.specs.declared.commands.Report.TheVariants.{Done, Table, Slots, Added, Copies}

-- A table was read from the disk, and the report has this relation to it.
pub record ReportsTable (Reports : GPT → Type 0) (size : Option ℕ) (old new : DiskState) : Type 0 where
  pub table : GPT
  pub read : IsReadFrom size old new table
  pub outcome : Reports table

-- the report has the free ranges of the table, each from its first multiple of align
abbrev pub AreSlotsIn : GPT → ℕ → Report → Type 0
AreSlotsIn g align Done = ⊥
AreSlotsIn g align (Table table) = ⊥
AreSlotsIn g align (Slots slots) = AreSlots (IsFreeIn g) align slots.items
AreSlotsIn g align (Added number first last) = ⊥
AreSlotsIn g align (Copies copies) = ⊥
