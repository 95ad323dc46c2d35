-- The errors of commands.
use Rattle.std.specs.Prelude.{◌≡◌, ◌⊎◌, ℕ, List, Some, None, IsTrue}
use Rattle.gptman.specs.Answers.{IsFailure}
use Rattle.gptman.specs.TableWrites.{RefusesWrite}
use Rattle.gptman.specs.Disk.{DiskState}
use Rattle.gptman.specs.Entry.{is_unused}
use Rattle.gptman.specs.Fault.{Fault, invalid_partition_number, no_space_left, out_of_memory}
use Rattle.gptman.specs.Fit.{fit_fault, new_header}
use Rattle.gptman.specs.Mbr.{mbr_fault}
use Rattle.gptman.specs.Number.{entry_at, number_fault}
use Rattle.gptman.specs.Place.{HasNoPlace, IsFreeIn}
use Rattle.gptman.specs.Table.{new_table}
use Rattle.gptman.specs.declared.table.GPT.{GPT}
use Rattle.gptimg_core.specs.declared.words.Addition.{Addition}
use Rattle.gptimg_core.specs.declared.words.Change.{Change}
use Rattle.gptimg_core.specs.declared.words.Change.TheVariants.{Add, Remove, Sort, Grow}

-- Why a new table is refused: an allocation failed, its header does not fit the disk, it cannot be written, or the disk
-- failed.
pub data RefusesNew (guid : List ℕ) (ss : ℕ) (fault : Fault) (old new : DiskState) : Type 0 where
  no_memory : fault ≡ out_of_memory → RefusesNew guid ss fault old new
  no_fit : fit_fault (new_header guid) ss old.size ≡ Some fault → RefusesNew guid ss fault old new
  not_written : fit_fault (new_header guid) ss old.size ≡ None → RefusesWrite (new_table guid ss old.size) fault old new → RefusesNew guid ss fault old new
  disk_failed : IsFailure fault old new → RefusesNew guid ss fault old new

-- why an MBR is refused: the disk is too short for it, or failed
abbrev pub RefusesMbr : ℕ → Fault → DiskState → DiskState → Type 0
RefusesMbr ss fault old new = (mbr_fault ss old.size ≡ Some fault) ⊎ IsFailure fault old new

-- Why an addition is refused: no entry has its number, or it is used; else there is no place, or an allocation failed.
pub data RefusesAddition (a : Addition) (g : GPT) (fault : Fault) : Type 0 where
  no_number : number_fault g a.number ≡ Some fault → RefusesAddition a g fault
  used : number_fault g a.number ≡ None → ¬ IsTrue (is_unused (entry_at g a.number)) → fault ≡ invalid_partition_number a.number → RefusesAddition a g fault
  no_place : number_fault g a.number ≡ None → IsTrue (is_unused (entry_at g a.number)) → HasNoPlace (IsFreeIn g) a.align a.size → fault ≡ no_space_left
      → RefusesAddition a g fault
  no_memory : number_fault g a.number ≡ None → IsTrue (is_unused (entry_at g a.number)) → fault ≡ out_of_memory → RefusesAddition a g fault

-- Why a change refuses a table, on a disk of len bytes that does not fail.
abbrev pub RefusesMaking : Change → ℕ → GPT → Fault → Type 0
RefusesMaking (Add a) len g fault = RefusesAddition a g fault
RefusesMaking (Remove number) len g fault = number_fault g number ≡ Some fault
RefusesMaking Sort len g fault = fault ≡ out_of_memory
RefusesMaking Grow len g fault = fit_fault g.header g.sector_size len ≡ Some fault

-- the change asks the disk for its length
abbrev pub AsksDisk : Change → Type 0
AsksDisk (Add a) = ⊥
AsksDisk (Remove number) = ⊥
AsksDisk Sort = ⊥
AsksDisk Grow = Unit {0}
