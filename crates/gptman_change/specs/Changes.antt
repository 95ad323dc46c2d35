-- A table that is read from a disk, changed by a plan, and written: the effect on the disk, and why it is refused.
use Rattle.std.specs.Prelude.{◌≡◌, ℕ, [], ◌∷◌, Option, Ok}
use Rattle.gptman.specs.Copy.{Copy}
use Rattle.gptman.specs.Crash.{AreReadFromEachCopy, IsKeptFor}
use Rattle.gptman.specs.Disk.{DiskState, IsHonest, OnlyRead, Wrote}
use Rattle.gptman.specs.Fault.{Fault}
use Rattle.gptman.specs.Layout.{HasLayout, Holds, IsLaidOut}
use Rattle.gptman.specs.Ranges.{AreApart}
use Rattle.gptman.specs.Reading.{CopyPlace, copy_in}
use Rattle.gptman.specs.Stop.{IsStored, StopsAreReadAs, StopsHold}
use Rattle.gptman.specs.Table.{Table, table_in, IsForm}
use Rattle.gptman.specs.TableReads.{CountsReading}
use Rattle.gptman.specs.TableWrites.{other_with_checksums, table_ranges, value_with_checksums, HasBothCopies, RefusesWrite}
use Rattle.gptman.specs.declared.table.GPT.{GPT}
use Rattle.gptman_change.specs.Planning.{KeepsPlaces, Leaves, Makes, RefusesPlan}
use Rattle.gptman_change.specs.Reads.{size_for, IsReadFrom, RefusesReading}

-- A crash at any moment leaves one of the two tables in one place at least, and a read returns one of them, or a
-- foreign copy.
pub record StopsLeaveEither (was next : Table) (ss : ℕ) (old new : DiskState) : Type 0 where
  pub held : StopsHold old new ss (was ∷ next ∷ [])
  pub read : StopsAreReadAs old new ss (was ∷ next ∷ [])

-- An honest disk on which all good copies, at least one, are of this table, and nothing is pending: the table has the
-- stated layout, a place holds it, and any accepted copy is this table in the form of its place.
pub record StartsGood (disk : DiskState) (ss : ℕ) (was : Table) : Type 0 where
  pub honest : IsHonest disk
  pub synced : disk.pending ≡ []
  pub layout : IsLaidOut was ss disk.size
  pub side : CopyPlace
  pub held : Holds disk.view ss side was
  pub only : (place : CopyPlace) (copy : Copy) → copy_in place disk.view ss ≡ Ok copy → IsForm place was copy

-- the same, with a sector size that is given or found
abbrev pub StartsGoodFor : DiskState → Option ℕ → Table → Type 0
StartsGoodFor disk size was = StartsGood disk (size_for disk.view size) was

-- A table was read, changed as planned and written. Only bytes in its four ranges changed, and nothing is pending. If
-- no two ranges overlap, they have the bytes of both copies. In the stated layout both places hold the table, and each
-- copy by itself is read as it. The disk did not fail, or failed once and the backup copy was read. If all good copies
-- were of one table, that table was read, and the planned one has the stated layout if it keeps its places.
pub record MakesChange {A : Type 0} (planned : Makes A) (size : Option ℕ) (answer : A) (old new : DiskState) : Type 0 where
  pub table : GPT
  pub next : GPT
  pub read : IsReadFrom size old new table
  pub counts : CountsReading old new table
  pub made : planned table next answer
  pub wrote : Wrote (table_ranges next) old new
  pub synced : new.pending ≡ []
  pub contents : AreApart (table_ranges next) → HasBothCopies new.view (value_with_checksums next) (other_with_checksums next)
  pub stored : HasLayout next old.size → IsStored new next.sector_size (table_in next)
  pub each_copy : HasLayout next old.size → AreReadFromEachCopy new.view next
  pub good : (was : Table) → StartsGood old table.sector_size was → KeepsPlaces table next → (table_in table ≡ was) × HasLayout next old.size

-- A table was read and the plan left it: nothing was written.
pub record LeavesTable {A : Type 0} (left : Leaves A) (size : Option ℕ) (answer : A) (old new : DiskState) : Type 0 where
  pub table : GPT
  pub read : IsReadFrom size old new table
  pub counts : CountsReading old new table
  pub answered : left table answer
  pub only : OnlyRead old new

-- After Ok: the planned table was written, or the plan left the table.
pub data AnswersChange {A : Type 0} (planned : Makes A) (left : Leaves A) (size : Option ℕ) (answer : A) (old new : DiskState) : Type 0 where
  is_written : MakesChange planned size answer old new → AnswersChange planned left size answer old new
  is_left : LeavesTable left size answer old new → AnswersChange planned left size answer old new

-- At every exit the disk was only read, or the table that was read was written as planned, only in its four ranges.
-- Then, if the disk started with one good copy of a table for the planned one, a crash at any moment leaves that table
-- or the planned one.
pub data LeavesChange {A : Type 0} (planned : Makes A) (size : Option ℕ) (old new : DiskState) : Type 0 where
  unwritten : OnlyRead old new → LeavesChange planned size old new
  written : (table next : GPT) (answer : A) → IsReadFrom size old new table → planned table next answer → Wrote (table_ranges next) old new
      → ((was : Table) → HasLayout next old.size → IsKeptFor old next was → StopsLeaveEither was (table_in next) next.sector_size old new)
      → LeavesChange planned size old new

-- After a crash at any moment a read returns this table, or once the write began, this table or the planned one, unless
-- it returns a foreign copy.
pub data IsSafe {A : Type 0} (planned : Makes A) (ss : ℕ) (was : Table) (old new : DiskState) : Type 0 where
  nothing_written : StopsAreReadAs old new ss (was ∷ []) → IsSafe planned ss was old new
  begun : (table next : GPT) (answer : A) → table_in table ≡ was → planned table next answer → StopsLeaveEither was (table_in next) ss old new
      → IsSafe planned ss was old new

-- Why a change is refused: the table cannot be read, the plan refuses it, or the planned table cannot be written.
pub data RefusesChange {A : Type 0} (planned : Makes A) (refuses : GPT → Fault → Type 0) (asks : Type 0) (size : Option ℕ) (fault : Fault) (old new : DiskState) : Type 0 where
  not_read : RefusesReading size fault old new → RefusesChange planned refuses asks size fault old new
  not_made : (table : GPT) → IsReadFrom size old new table → RefusesPlan refuses asks table fault old new → RefusesChange planned refuses asks size fault old new
  not_written : (table next : GPT) (answer : A) → IsReadFrom size old new table → planned table next answer → RefusesWrite next fault old new
      → RefusesChange planned refuses asks size fault old new
