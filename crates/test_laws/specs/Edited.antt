-- Why a table with a list of edits is not written.
use Rattle.std.specs.Prelude.{◌≡◌, List, Some}
use Rattle.gptman.specs.Disk.{DiskState}
use Rattle.gptman.specs.Edit.{edited_all, edits_fault}
use Rattle.gptman.specs.Fault.{Fault, out_of_memory}
use Rattle.gptman.specs.TableWrites.{RefusesWrite}
use Rattle.gptman.specs.declared.edit.Edit.{Edit}
use Rattle.gptman.specs.declared.table.GPT.{GPT}

-- An edit is refused, memory runs out, or the write of the edited table is refused.
pub data RefusesEdited (g : GPT) (edits : List Edit) (fault : Fault) (old new : DiskState) : Type 0 where
  not_edited : edits_fault g edits ≡ Some fault → RefusesEdited g edits fault old new
  no_memory : fault ≡ out_of_memory → RefusesEdited g edits fault old new
  not_written : RefusesWrite (edited_all g edits) fault old new → RefusesEdited g edits fault old new
