-- The tables that a disk holds, and those that a read of it returns.
use Rattle.std.specs.Prelude.{◌≡◌, ◌<◌, ◌^◌, ◌↔◌, ℕ, List, [], length, Ok, Contains}
use Rattle.gptman_disk.specs.Disk.{DiskState, LeavesOnly}
use Rattle.gptman.specs.Copy.{Copy, CopyAt, copy_at}
use Rattle.gptman.specs.declared.codec.header.GPTHeader.{GPTHeader}
use Rattle.gptman.specs.declared.codec.entry.GPTPartitionEntry.{GPTPartitionEntry}
use Rattle.gptman.specs.Reading.{CopyPlace, primary, backup, reading_of, taken_from}
use Rattle.gptman.specs.Table.{Table, table_of, IsForm, IsHeaderForm}
use Rattle.gptman.specs.Layout.{Holds}

-- Nothing is unsynced, and both places of the view hold the table.
pub record IsStored (disk : DiskState) (ss : ℕ) (t : Table) : Type 0 where
  pub synced : disk.pending ≡ []
  pub at_primary : Holds disk.view ss primary t
  pub at_backup : Holds disk.view ss backup t

-- The read returns a foreign copy: one that is not a listed table in the form of its place.
pub record ReadsForeign (b : List ℕ) (ss : ℕ) (tables : List Table) : Type 0 where
  pub copy : Copy
  pub taken : reading_of b ss ≡ Ok copy
  pub foreign : (t : Table) → Contains tables t → ¬ IsForm (taken_from b ss) t copy

-- The read returns the copy at this place, and it is the table in the form of that place.
pub record ReadsTable (b : List ℕ) (ss : ℕ) (side : CopyPlace) (t : Table) : Type 0 where
  pub copy : Copy
  pub taken : reading_of b ss ≡ Ok copy
  pub from : taken_from b ss ≡ side
  pub form : IsForm side t copy

-- One place at least holds a listed table.
pub record HoldsOneOf (b : List ℕ) (ss : ℕ) (tables : List Table) : Type 0 where
  pub side : CopyPlace
  pub table : Table
  pub listed : Contains tables table
  pub holds : Holds b ss side table

-- The read returns a listed table, in the form of the place that it is read from.
pub record ReadsOneOf (b : List ℕ) (ss : ℕ) (tables : List Table) : Type 0 where
  pub copy : Copy
  pub taken : reading_of b ss ≡ Ok copy
  pub table : Table
  pub listed : Contains tables table
  pub form : IsForm (taken_from b ss) table copy

-- A crash at any moment since old leaves a disk that holds a listed table.
abbrev pub StopsHold : DiskState → DiskState → ℕ → List Table → Type 0
StopsHold old new ss tables = LeavesOnly old new (λ b. HoldsOneOf b ss tables)

-- A crash at any moment since old leaves a disk that is read as a listed table, unless the read returns a foreign copy.
abbrev pub StopsAreReadAs : DiskState → DiskState → ℕ → List Table → Type 0
StopsAreReadAs old new ss tables = LeavesOnly old new (λ b. ¬ ReadsForeign b ss tables → ReadsOneOf b ss tables)

-- A disk that holds a listed table in at least one place, and from which no foreign copy is read, is read as a listed
-- table.
abbrev pub ReadsWhatItHolds : Type 0
ReadsWhatItHolds = (b : List ℕ) (ss : ℕ) (tables : List Table) → HoldsOneOf b ss tables → ¬ ReadsForeign b ss tables → ReadsOneOf b ss tables

-- If a read returns a copy in the form of its place, that place holds the copy's table.
abbrev pub HoldsWhatIsRead : Type 0
HoldsWhatIsRead = (b : List ℕ) (ss : ℕ) (copy : Copy) → reading_of b ss ≡ Ok copy → IsHeaderForm (taken_from b ss) copy.header
    → Holds b ss (taken_from b ss) (table_of copy.header copy.entries)

-- On a disk of fewer than 2^64 bytes, a copy is accepted, with this header and these entries, exactly if they are
-- there.
abbrev pub AcceptsRightCopies : Type 0
AcceptsRightCopies = (b : List ℕ) (p ss : ℕ) (h : GPTHeader) (es : List GPTPartitionEntry) → length b < 2 ^ 64
    → (copy_at b p ss ≡ Ok (record { header = h; entries = es })) ↔ CopyAt b p ss h es
