-- Changes of a table.
use Rattle.std.specs.Prelude.{◌≡◌, ℕ, ◌+◌, ◌-◌, None, IsTrue}
use Rattle.std.specs.Str.{chars}
use Rattle.gptman.specs.Disk.{DiskState}
use Rattle.gptman.specs.Crash.{StartsFromOne}
use Rattle.gptman.specs.Edit.{after_edit, edit_fault}
use Rattle.gptman.specs.Entry.{is_unused}
use Rattle.gptman.specs.Fit.{fit_fault}
use Rattle.gptman.specs.Name.{units_of}
use Rattle.gptman.specs.Number.{entry_at, number_fault, with_entry}
use Rattle.gptman.specs.Place.{IsBestPlace, IsFirstPlace, IsFreeIn, IsLastPlace}
use Rattle.gptman.specs.Table.{Table as DiskTable, grow_to, table_in}
use Rattle.gptman.specs.declared.codec.entry.GPTPartitionEntry.{GPTPartitionEntry}
use Rattle.gptman.specs.declared.edit.Edit.TheVariants.{Remove as RemoveEntry, SortEntries}
use Rattle.gptman.specs.declared.table.GPT.{GPT}
use Rattle.gptman_change.specs.Changes.{StopsLeaveEither}
use Rattle.gptimg_core.specs.declared.commands.Report.{Report}
use Rattle.gptimg_core.specs.declared.commands.Report.TheVariants.{Done, Added}
use Rattle.gptimg_core.specs.declared.words.Addition.{Addition}
use Rattle.gptimg_core.specs.declared.words.Change.{Change}
use Rattle.gptimg_core.specs.declared.words.Change.TheVariants.{Add, Remove, Sort, Grow}
use Rattle.gptimg_core.specs.declared.words.Choice.{Choice}
use Rattle.gptimg_core.specs.declared.words.Choice.TheVariants.{First, Last, Best}

-- s is the chosen place for n sectors
abbrev pub IsChosenPlace : Choice → (ℕ → Type 0) → ℕ → ℕ → ℕ → Type 0
IsChosenPlace First free align n s = IsFirstPlace free align n s
IsChosenPlace Last free align n s = IsLastPlace free align n s
IsChosenPlace Best free align n s = IsBestPlace free align n s

-- the entry of a partition that is added from sector s
abbrev pub added_entry : Addition → ℕ → GPTPartitionEntry
added_entry a s = record {
  partition_type_guid = a.type_guid;
  unique_partition_guid = a.unique_guid;
  starting_lba = s;
  ending_lba = s + (a.size - 1);
  attribute_bits = 0;
  partition_name = record { text = a.name; units = units_of (chars a.name) };
}

-- the value with this entry
abbrev pub with_addition : GPT → Addition → ℕ → GPT
with_addition g a s = record (with_entry g a.number (added_entry a s)) { align = a.align }

-- A partition was added at the chosen place, with the number of an unused entry.
pub record IsAdded (a : Addition) (g next : GPT) : Type 0 where
  pub number : number_fault g a.number ≡ None
  pub unused : IsTrue (is_unused (entry_at g a.number))
  pub start : ℕ
  pub place : IsChosenPlace a.choice (IsFreeIn g) a.align a.size start
  pub next_is : next ≡ with_addition g a start

-- The effect of a change on a value, on a disk of len bytes.
abbrev pub IsChanged : ℕ → Change → GPT → GPT → Type 0
IsChanged len (Add a) g next = IsAdded a g next
IsChanged len (Remove number) g next = (edit_fault g (RemoveEntry number) ≡ None) × (next ≡ after_edit g (RemoveEntry number))
IsChanged len Sort g next = next ≡ after_edit g SortEntries
IsChanged len Grow g next = (fit_fault g.header g.sector_size len ≡ None) × (next ≡ grow_to g len)

-- the report of a change
abbrev pub report_of : Change → GPT → Report
report_of (Add a) next = let e = entry_at next a.number in Added a.number e.starting_lba e.ending_lba
report_of (Remove number) next = Done
report_of Sort next = Done
report_of Grow next = Done

-- the effect of a change on a value, on a disk of len bytes, and its report
abbrev pub IsMade : Change → ℕ → GPT → GPT → Report → Type 0
IsMade change len g next report = IsChanged len change g next × (report ≡ report_of change next)

-- If the disk starts with one good copy of a table for this value, a crash leaves that table or the value's.
abbrev pub ReplacesTable : GPT → DiskState → DiskState → Type 0
ReplacesTable g old new = (was : DiskTable) → StartsFromOne old g was → StopsLeaveEither was (table_in g) g.sector_size old new
