-- The effect of a plan on a table.
use Rattle.std.specs.Prelude.{◌⊎◌, ℕ}
use Rattle.gptman.specs.Answers.{IsFailure}
use Rattle.gptman.specs.Disk.{DiskState}
use Rattle.gptman.specs.Fault.{Fault}
use Rattle.gptman.specs.Crash.{HasPlacesOf}
use Rattle.gptman.specs.Layout.{HasLayout}
use Rattle.gptman.specs.declared.table.GPT.{GPT}
use Rattle.gptman_change.specs.declared.Planned.{Planned}
use Rattle.gptman_change.specs.declared.Planned.TheVariants.{Write, Leave}

-- the effect of a plan: the table before, the table after, and the answer
abbrev pub Makes : Type 0 → Type 1
Makes A = GPT → GPT → A → Type 0

-- the tables that a plan leaves unchanged, each with the answer
abbrev pub Leaves : Type 0 → Type 1
Leaves A = GPT → A → Type 0

-- The result of a plan: the answer for a table to be written, or for one that is left.
abbrev pub IsPlannedAs : {A : Type 0} → Makes A → Leaves A → GPT → GPT → Planned A → Type 0
IsPlannedAs made left table next (Write answer) = made table next answer
IsPlannedAs made left table next (Leave answer) = left table answer

-- The plan returns this answer for some table.
pub data IsAnswer {A : Type 0} (made : Makes A) (left : Leaves A) (answer : A) : Type 0 where
  of_written : (table next : GPT) → made table next answer → IsAnswer made left answer
  of_left : (table : GPT) → left table answer → IsAnswer made left answer

-- A table keeps its places: its sector size, its form and its four ranges, and the stated layout if it had it.
pub record KeepsPlaces (table next : GPT) : Type 0 where
  pub places : HasPlacesOf table next
  pub layout : (len : ℕ) → HasLayout table len → HasLayout next len

-- the plan keeps the places of each table
abbrev pub AlwaysKeepsPlaces : {A : Type 0} → Makes A → Type 0
AlwaysKeepsPlaces {A} planned = (table next : GPT) (answer : A) → planned table next answer → KeepsPlaces table next

-- Why a plan refuses a table: for its own reason, or because the disk failed, if the plan asks the disk.
abbrev pub RefusesPlan : (GPT → Fault → Type 0) → Type 0 → GPT → Fault → DiskState → DiskState → Type 0
RefusesPlan refuses asks table fault old new = refuses table fault ⊎ (asks × IsFailure fault old new)
