-- The uses of a disk that permit a change of its table.
use Rattle.std.specs.Prelude.{◌≡◌, ◌≤◌, IsTrue, Option, Some}
use Rattle.gptman.specs.Entry.{is_used}
use Rattle.gptman.specs.Number.{entry_of_number}
use Rattle.gptman.specs.declared.codec.entry.GPTPartitionEntry.{GPTPartitionEntry}
use Rattle.gptman.specs.declared.table.GPT.{GPT}
use Rattle.gptedit_look.specs.declared.uses.Part.{Part}
use Rattle.gptedit_look.specs.declared.uses.Part.TheVariants.{Whole, Partition}

-- A used entry keeps its start, type and GUID, and does not end earlier.
pub record IsKept (old new : GPTPartitionEntry) : Type 0 where
  pub used : IsTrue (is_used old)
  pub start : old.starting_lba ≡ new.starting_lba
  pub type_guid : old.partition_type_guid ≡ new.partition_type_guid
  pub guid : old.unique_partition_guid ≡ new.unique_partition_guid
  pub end : old.ending_lba ≤ new.ending_lba

-- Both tables have the entry, and it is kept.
abbrev pub IsKeptIn : Option GPTPartitionEntry → Option GPTPartitionEntry → Type 0
IsKeptIn (Some old) (Some new) = IsKept old new
IsKeptIn old new = ⊥

-- A part in use permits the change: it is a partition that both tables have and the change keeps.
abbrev pub IsHarmless : Part → GPT → GPT → Type 0
IsHarmless Whole was next = ⊥
IsHarmless (Partition n) was next = IsKeptIn (entry_of_number was n) (entry_of_number next n)

-- A use of the part permits the change of the table. No use permits it if a table is missing.
abbrev pub IsAllowed : Part → Option GPT → Option GPT → Type 0
IsAllowed part (Some was) (Some next) = IsHarmless part was next
IsAllowed part was next = ⊥
