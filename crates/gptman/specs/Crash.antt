-- The start of a write of a table, and the disk that it leaves after a crash or an error.
use Rattle.std.specs.Prelude.{◌≡◌, ◌⊎◌, ℕ, List, [], ◌++◌, length, Ok, IsErr, IsTrue}
use Rattle.gptman.specs.Copy.{IsCoherent}
use Rattle.gptman_disk.specs.Disk.{AgreesOutside, DiskState, Image, IsHonest, IsPending, LeavesOnly, Outside}
use Rattle.gptman.specs.Fit.{fit_header}
use Rattle.gptman_disk.specs.Ranges.{AgreesInside, AreClear, Inside}
use Rattle.gptman.specs.Edit.{after_edit, edited_all}
use Rattle.gptman.specs.Layout.{HasLayout, Holds, copy_ranges_at}
use Rattle.gptman.specs.Reading.{CopyPlace, primary, backup, copy_start, copy_in, reading_of, taken_from}
use Rattle.gptman.specs.Stop.{IsStored, ReadsTable}
use Rattle.gptman.specs.Table.{Table, entries_in, table_in, IsHeaderForm}
use Rattle.gptman.specs.TableReads.{copy_of}
use Rattle.gptman.specs.declared.codec.header.GPTHeader.{GPTHeader}
use Rattle.gptman.specs.declared.edit.Edit.{Edit}
use Rattle.gptman.specs.declared.table.GPT.{GPT}

-- The other place.
abbrev pub other_place : CopyPlace → CopyPlace
other_place primary = backup
other_place backup = primary

-- One good copy: nothing is unsynced, the place of the value's form holds the old table, and the old table's ranges
-- there do not overlap those of the value's other copy.
pub record IsKeptFor (disk : DiskState) (g : GPT) (old : Table) : Type 0 where
  pub synced : disk.pending ≡ []
  pub side : CopyPlace
  pub form : IsHeaderForm side g.header
  pub held : Holds disk.view g.sector_size side old
  pub clear : AreClear (copy_ranges_at side old g.sector_size disk.size) (copy_ranges_at (other_place side) (table_in g) g.sector_size disk.size)

-- The two tables have the same four ranges, on a disk where both have the stated layout.
pub record HasRangesOf (old new : Table) : Type 0 where
  pub count : new.count ≡ old.count
  pub last : new.last_usable_lba ≡ old.last_usable_lba

-- An honest disk on which the value has the stated layout.
pub record StartsLaidOut (disk : DiskState) (g : GPT) : Type 0 where
  pub honest : IsHonest disk
  pub layout : HasLayout g disk.size

-- An honest disk on which the value has the stated layout, and nothing is unsynced.
pub record StartsSynced (disk : DiskState) (g : GPT) : Type 0 where
  pub start : StartsLaidOut disk g
  pub synced : disk.pending ≡ []

-- An honest disk on which the value has the stated layout, with one good copy of the old table.
pub record StartsFromOne (disk : DiskState) (g : GPT) (old : Table) : Type 0 where
  pub start : StartsLaidOut disk g
  pub kept : IsKeptFor disk g old

-- An honest disk on which the value has the stated layout, with the old table stored at both places. These are also the
-- new table's places, as it has as many entries and the same last usable sector.
pub record StartsStored (disk : DiskState) (g : GPT) (old : Table) : Type 0 where
  pub honest : IsTrue disk.is_honest
  pub layout : HasLayout g disk.size
  pub stored : IsStored disk g.sector_size old
  pub count : (table_in g).count ≡ old.count
  pub last : (table_in g).last_usable_lba ≡ old.last_usable_lba

-- A crash at any moment since old leaves all bytes outside the value's four ranges unchanged.
abbrev pub StopsKeepOthers : DiskState → DiskState → GPT → Type 0
StopsKeepOthers old new g = LeavesOnly old new (AgreesOutside (copy_ranges_at primary (table_in g) g.sector_size old.size ++ copy_ranges_at backup (table_in g) g.sector_size old.size) old.view)

-- A crash at any moment since old leaves all bytes outside the value's other copy unchanged, or that copy complete: its
-- place holds the value's table.
abbrev pub StopsComeInOrder : DiskState → DiskState → GPT → Type 0
StopsComeInOrder old new g = (side : CopyPlace) → IsHeaderForm side g.header
    → LeavesOnly old new (λ b. AgreesOutside (copy_ranges_at (other_place side) (table_in g) g.sector_size old.size) old.view b ⊎ Holds b g.sector_size (other_place side) (table_in g))

-- No byte of the ranges is unsynced, and all are unchanged.
pub record IsLeftAlone (ranges : List (ℕ × ℕ)) (old new : DiskState) : Type 0 where
  pub not_pending : (k : ℕ) → Inside ranges k → Outside new.pending k
  pub same : AgreesInside ranges old.view new.view

-- A place after a failed write: unchanged; or holding the new table, whatever a crash leaves; or with an unsynced
-- header.
pub data PlaceAfter (side : CopyPlace) (t : Table) (ss : ℕ) (old new : DiskState) : Type 0 where
  left_alone : IsLeftAlone (copy_ranges_at side t ss old.size) old new → PlaceAfter side t ss old new
  written : ((b : List ℕ) → Image new b → Holds b ss side t) → PlaceAfter side t ss old new
  torn : IsPending (copy_start side old.size ss, 92) new → PlaceAfter side t ss old new

-- Each place is unchanged, or holds the new table whatever a crash leaves, or has an unsynced header.
abbrev pub BothPlacesAfter : GPT → DiskState → DiskState → Type 0
BothPlacesAfter g old new = PlaceAfter primary (table_in g) g.sector_size old new × PlaceAfter backup (table_in g) g.sector_size old new

-- A disk that agrees with the view in the two ranges of a place is read as the table, from the backup place if the
-- primary copy is not accepted.
pub record IsReadFromEachCopy (view : List ℕ) (ss : ℕ) (t : Table) (b : List ℕ) : Type 0 where
  pub from_primary : AgreesInside (copy_ranges_at primary t ss (length view)) view b → ReadsTable b ss primary t
  pub from_backup : AgreesInside (copy_ranges_at backup t ss (length view)) view b → IsErr (copy_in primary b ss) → ReadsTable b ss backup t

-- Each copy of the value's table is read as the table without the other.
abbrev pub AreReadFromEachCopy : List ℕ → GPT → Type 0
AreReadFromEachCopy view g = (b : List ℕ) → IsReadFromEachCopy view g.sector_size (table_in g) b

-- A table that the primary place holds is one good copy for a value in the stated layout whose header was fitted to
-- this disk, from one in primary form with as many entries. Its last usable sector and backup sector may have been
-- elsewhere.
abbrev pub GrowingIsSafe : DiskState → Type 0
GrowingIsSafe disk = (was : Table) (h : GPTHeader) (g : GPT) → disk.pending ≡ [] → Holds disk.view g.sector_size primary was
    → IsHeaderForm primary h → h.number_of_partition_entries ≡ was.count
    → g.header ≡ fit_header h g.sector_size disk.size
    → HasLayout g disk.size
    → IsKeptFor disk g was

-- The value is a copy that is accepted at a place, in the form of that place.
pub record IsReadInForm (view : List ℕ) (g : GPT) : Type 0 where
  pub side : CopyPlace
  pub accepted : copy_in side view g.sector_size ≡ Ok (copy_of g)
  pub form : IsHeaderForm side g.header

-- A copy that a read returns in the form of its place is such a value (`IsReadInForm`).
abbrev pub TakesInForm : List ℕ → Type 0
TakesInForm view = (g : GPT) → reading_of view g.sector_size ≡ Ok (copy_of g) → IsHeaderForm (taken_from view g.sector_size) g.header → IsReadInForm view g

-- The other value has the sector size of this one, the form of its header, and the same four ranges.
pub record HasPlacesOf (g next : GPT) : Type 0 where
  pub sector : next.sector_size ≡ g.sector_size
  pub form : (side : CopyPlace) → IsHeaderForm side g.header → IsHeaderForm side next.header
  pub ranges : HasRangesOf (table_in g) (table_in next)

-- A value that was read in the form of its place is one good copy for a write of any value with its places, so also of
-- itself, in the stated layout.
abbrev pub KeepsWhatIsRead : DiskState → Type 0
KeepsWhatIsRead disk = (g next : GPT) → IsHonest disk → disk.pending ≡ [] → IsReadInForm disk.view g → HasPlacesOf g next → HasLayout next disk.size
    → StartsFromOne disk next (table_in g)

-- An edit keeps the places of a value, and the stated layout.
abbrev pub EditsKeepPlaces : Type 0
EditsKeepPlaces = (g : GPT) (edit : Edit) (len : ℕ) → HasPlacesOf g (after_edit g edit) × (HasLayout g len → HasLayout (after_edit g edit) len)

-- A list of edits keeps the places of a value, the stated layout, and coherence.
abbrev pub EditListsKeepPlaces : Type 0
EditListsKeepPlaces = (g : GPT) (edits : List Edit) (len : ℕ) → let next = edited_all g edits in
    HasPlacesOf g next × (HasLayout g len → HasLayout next len) × (IsCoherent g.header (entries_in g) → IsCoherent next.header (entries_in next))
