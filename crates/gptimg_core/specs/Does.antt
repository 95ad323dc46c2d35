-- The effect of a command on the disk, and its result.
use Rattle.std.specs.Prelude.{◌≡◌, ◌⊎◌, ℕ, Bool, List, [], ◌∷◌, Option, Result, IsTrue, IfErr, IfOk, OnErr, OnOk}
use Rattle.gptman.specs.Answers.{CountsFailure, HasCause, IsFailure}
use Rattle.gptman.specs.Crash.{StartsLaidOut}
use Rattle.gptman.specs.Disk.{DiskState, FailedOrUntouched, IsHonest, OnlyRead, Writes}
use Rattle.gptman.specs.Fault.{fault_of, out_of_memory}
use Rattle.gptman.specs.Mbr.{mbr_range, IsMbrStored}
use Rattle.gptman.specs.Stop.{IsStored}
use Rattle.gptman.specs.Table.{new_table, table_in}
use Rattle.gptman.specs.TableWrites.{table_ranges}
use Rattle.gptman.specs.Error.{Error}
use Rattle.gptman_change.specs.Changes.{LeavesChange, MakesChange, RefusesChange}
use Rattle.gptman_change.specs.Reads.{RefusesReading}
use Rattle.gptimg_core.specs.Changes.{IsMade, ReplacesTable}
use Rattle.gptimg_core.specs.Checks.{is_good, ReportsCopies}
use Rattle.gptimg_core.specs.Reads.{AreSlotsIn, ReportsTable}
use Rattle.gptimg_core.specs.Refusals.{AsksDisk, RefusesMaking, RefusesMbr, RefusesNew}
use Rattle.gptimg_core.specs.declared.commands.Report.{Report}
use Rattle.gptimg_core.specs.declared.commands.Report.TheVariants.{Done, Table}
use Rattle.gptimg_core.specs.declared.words.Change.{Change}
use Rattle.gptimg_core.specs.declared.words.Command.{Command}
use Rattle.gptimg_core.specs.declared.words.Command.TheVariants.{New, Mbr, Check, Show, Free, Change as Changing}

-- the result of a command: a report, or an error
abbrev pub Outcome : Type 0
Outcome = Result Report Error

-- A new table with this disk GUID is written to both places. If the old table has one good copy where the new one is
-- not written first, a crash at any moment leaves the old table or the new one.
pub record DoesNew (ss : ℕ) (guid : List ℕ) (outcome : Outcome) (old new : DiskState) : Type 0 where
  pub refused : IfErr outcome (λ e. RefusesNew guid ss (fault_of e) old new)
  pub counts : CountsFailure outcome old new
  pub wrote : Writes (table_ranges (new_table guid ss old.size)) old new
  pub made : IfOk outcome (λ report. report ≡ Done)
  pub stored : StartsLaidOut old (new_table guid ss old.size) → OnOk outcome (IsStored new ss (table_in (new_table guid ss old.size)))
  pub replaces : ReplacesTable (new_table guid ss old.size) old new

-- A protective MBR is written and synced.
pub record DoesMbr (ss : ℕ) (bootable : Bool) (outcome : Outcome) (old new : DiskState) : Type 0 where
  pub refused : IfErr outcome (λ e. RefusesMbr ss (fault_of e) old new)
  pub counts : CountsFailure outcome old new
  pub wrote : Writes (mbr_range ∷ []) old new
  pub made : IfOk outcome (λ report. report ≡ Done)
  pub stored : IsHonest old → OnOk outcome (IsMbrStored bootable ss old new)

-- Each copy is checked by itself.
pub record DoesCheck (ss : ℕ) (outcome : Outcome) (old new : DiskState) : Type 0 where
  pub only : IsHonest old → OnlyRead old new
  pub refused : IfErr outcome (λ e. (fault_of e ≡ out_of_memory) ⊎ IsFailure (fault_of e) old new)
  pub copies : IsHonest old → IfOk outcome (ReportsCopies ss old new)

-- The table on the disk is read.
pub record DoesShow (size : Option ℕ) (outcome : Outcome) (old new : DiskState) : Type 0 where
  pub only : IsHonest old → OnlyRead old new
  pub refused : IsHonest old → IfErr outcome (λ e. RefusesReading size (fault_of e) old new)
  pub shown : IsHonest old → IfOk outcome (λ report. ReportsTable (λ g. report ≡ Table g) size old new)

-- The free ranges are listed, each from its first multiple of align.
pub record DoesFree (size : Option ℕ) (align : ℕ) (outcome : Outcome) (old new : DiskState) : Type 0 where
  pub only : IsHonest old → OnlyRead old new
  pub refused : IsHonest old → IfErr outcome (λ e. RefusesReading size (fault_of e) old new)
  pub slots : IsHonest old → IfOk outcome (λ report. ReportsTable (λ g. AreSlotsIn g align report) size old new)

-- The table on the disk is read, changed and written to both places.
pub record DoesChange (size : Option ℕ) (change : Change) (outcome : Outcome) (old new : DiskState) : Type 0 where
  pub refused : IsHonest old
      → IfErr outcome (λ e. RefusesChange (IsMade change old.size) (RefusesMaking change old.size) (AsksDisk change) size (fault_of e) old new)
  pub changed : IsHonest old → IfOk outcome (λ report. MakesChange (IsMade change old.size) size report old new)
  pub leaves : IsHonest old → LeavesChange (IsMade change old.size) size old new

-- the effect, by command
abbrev pub DoesCommand : Command → Outcome → DiskState → DiskState → Type 0
DoesCommand (New ss guid) outcome old new = DoesNew ss guid outcome old new
DoesCommand (Mbr ss bootable) outcome old new = DoesMbr ss bootable outcome old new
DoesCommand (Check ss) outcome old new = DoesCheck ss outcome old new
DoesCommand (Show size) outcome old new = DoesShow size outcome old new
DoesCommand (Free size align) outcome old new = DoesFree size align outcome old new
DoesCommand (Changing size change) outcome old new = DoesChange size change outcome old new

-- A command succeeds or fails, and only the report of `check` can be bad. Unless the disk failed, a failed command
-- leaves the disk unchanged. `Io` occurs only if the disk failed.
pub record Does (command : Command) (outcome : Outcome) (old new : DiskState) : Type 0 where
  pub does : DoesCommand command outcome old new
  pub good : IfOk outcome (λ report. IsTrue (is_good report) ⊎ ((ss : ℕ) × (command ≡ Check ss)))
  pub cause : HasCause outcome old new
  pub kept : IsHonest old → OnErr outcome (FailedOrUntouched old new)
