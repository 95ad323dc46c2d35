-- Edits of a table, as values.
use Rattle.std.specs.Prelude.{ℕ, List, [], ◌∷◌, fold, take, Option, None}
use Rattle.std.specs.Option.{option_or}
use Rattle.gptman.specs.Coding.{empty_entry}
use Rattle.gptman_disk.specs.Fault.{Fault}
use Rattle.gptman.specs.Number.{number_fault, with_entries, with_entry}
use Rattle.gptman.specs.Order.{by_rank, rank}
use Rattle.gptman.specs.Table.{entries_in}
use Rattle.gptman.specs.declared.edit.Edit.{Edit}
use Rattle.gptman.specs.declared.edit.Edit.TheVariants.{Put, Remove, SortEntries, DiskGuid}
use Rattle.gptman.specs.declared.table.GPT.{GPT}

-- The table after an edit.
abbrev pub after_edit : GPT → Edit → GPT
after_edit g (Put i e) = with_entry g i e
after_edit g (Remove i) = with_entry g i empty_entry
after_edit g SortEntries = with_entries g (by_rank rank (entries_in g))
after_edit g (DiskGuid guid) = record g { header = record g.header { disk_guid = guid } }

-- The table after all edits, in order.
abbrev pub edited_all : GPT → List Edit → GPT
edited_all g edits = fold after_edit g edits

-- The table after the first k edits.
abbrev pub table_after : GPT → List Edit → ℕ → GPT
table_after g edits k = edited_all g (take k edits)

-- The error of an edit, because of its number.
abbrev pub edit_fault : GPT → Edit → Option Fault
edit_fault g (Put i e) = number_fault g i
edit_fault g (Remove i) = number_fault g i
edit_fault g SortEntries = None
edit_fault g (DiskGuid guid) = None

-- The error of the first edit that fails, on the table that the edits before it made.
abbrev pub edits_fault : GPT → List Edit → Option Fault
edits_fault g [] = None
edits_fault g (edit ∷ edits) = option_or (edit_fault g edit) (edits_fault (after_edit g edit) edits)
