-- The report on both copies of a table.
use Rattle.std.specs.Prelude.{ℕ, Bool, true}
use Rattle.gptman.specs.Copies.{IsChecked}
use Rattle.gptman.specs.Disk.{DiskState}
use Rattle.gptimg_core.specs.declared.commands.Report.{Report}
use Rattle.gptimg_core.specs.declared.commands.Report.TheVariants.{Done, Table, Slots, Added, Copies}

-- the report has the result of the check of both copies
abbrev pub ReportsCopies : ℕ → DiskState → DiskState → Report → Type 0
ReportsCopies ss old new Done = ⊥
ReportsCopies ss old new (Table table) = ⊥
ReportsCopies ss old new (Slots slots) = ⊥
ReportsCopies ss old new (Added number first last) = ⊥
ReportsCopies ss old new (Copies copies) = IsChecked ss old new copies

-- whether the status is 0: false only for copies that are not one table
abbrev pub is_good : Report → Bool
is_good Done = true
is_good (Table table) = true
is_good (Slots slots) = true
is_good (Added number first last) = true
is_good (Copies copies) = copies.are_same
