-- Lists of edits, with a write after each edit.
use Rattle.std.specs.Prelude.{◌≡◌, ◌<◌, ◌⊎◌, ◌+◌, ℕ, zero, suc, Bool, true, false, List, [], ◌∷◌, map, slice_get, Option, Some, None, if◌then◌else◌}
use Rattle.std.specs.List.{range_with_len}
use Rattle.gptman_disk.specs.Ranges.{AreApart}
use Rattle.gptman.specs.TableWrites.{other_with_checksums, table_ranges, value_with_checksums, HasBothCopies, IsButSums, RefusesWrite}
use Rattle.gptman_disk.specs.Disk.{OnlyRead, DiskState, Image, IsPending}
use Rattle.gptman.specs.Crash.{IsLeftAlone}
use Rattle.gptman.specs.Edit.{after_edit, edit_fault, table_after}
use Rattle.gptman_disk.specs.Fault.{Fault, fault_of, io, out_of_memory}
use Rattle.gptman.specs.Layout.{Holds, copy_ranges_at}
use Rattle.gptman.specs.Reading.{CopyPlace, primary, backup, copy_start}
use Rattle.gptman.specs.Stop.{HoldsOneOf, IsStored}
use Rattle.gptman.specs.Table.{Table, entries_in, table_in}
use Rattle.gptman.specs.Valid.{IsValid}
use Rattle.gptman.specs.declared.edit.Edit.{Edit}
use Rattle.gptman.specs.declared.edit.Edit.TheVariants.{SortEntries}
use Rattle.gptman_disk.specs.declared.error.Error.{Error}
use Rattle.gptman.specs.declared.table.GPT.{GPT}

-- The value after k edits that were applied and written. From the first one on, its checksums are computed.
abbrev pub value_after : GPT → List Edit → ℕ → GPT
value_after g edits zero = g
value_after g edits (suc k) = value_with_checksums (table_after g edits (suc k))

-- The tables after 0 to k edits.
abbrev pub tables_to : GPT → List Edit → ℕ → List Table
tables_to g edits k = map (λ j. table_in (table_after g edits j)) (range_with_len 0 (k + 1))

-- The edit has a right number, and makes a valid table.
pub record IsAllowed (g : GPT) (edit : Edit) : Type 0 where
  pub number : edit_fault g edit ≡ None
  pub valid : let g' = after_edit g edit in IsValid g'.header (entries_in g')

-- The value is this one, except that a write that returned `Io` may have changed its checksums.
abbrev pub IsLeftAs : GPT → Fault → GPT → Type 0
IsLeftAs g fault new = (new ≡ g) ⊎ ((fault ≡ io) × IsButSums g new)

-- Why an edit was not applied and written, and the value then. Either it was not applied, because of its number or
-- because sorting ran out of memory, and the value is unchanged; or the edited table was not written, and the value is
-- that table.
pub data RefusesEdit (g : GPT) (edit : Edit) (fault : Fault) (new : GPT) (old after : DiskState) : Type 0 where
  not_applied : (edit_fault g edit ≡ Some fault) ⊎ ((edit ≡ SortEntries) × (fault ≡ out_of_memory)) → new ≡ g → RefusesEdit g edit fault new old after
  not_written : edit_fault g edit ≡ None → RefusesWrite (after_edit g edit) fault old after → IsLeftAs (after_edit g edit) fault new → RefusesEdit g edit fault new old after

-- Edit k + 1 of the list is allowed, on the value after k edits.
abbrev pub IsAllowedAt : GPT → List Edit → ℕ → Type 0
IsAllowedAt g edits k = (edit : Edit) → slice_get edits k ≡ Some edit → IsAllowed (table_after g edits k) edit

-- Edit k + 1 of the list fails, on the value after k edits.
pub record IsRefusedAt (g : GPT) (edits : List Edit) (k : ℕ) (fault : Fault) (new : GPT) (old after : DiskState) : Type 0 where
  pub edit : Edit
  pub is : slice_get edits k ≡ Some edit
  pub refused : RefusesEdit (value_after g edits k) edit fault new old after

abbrev pub is_io : Fault → Bool
is_io io = true
is_io _ = false

-- Whether the disk failed: the fault is `Io`.
abbrev pub is_failure : Option Error → Bool
is_failure None = false
is_failure (Some e) = is_io (fault_of e)

-- The number of edits whose tables a crash may leave: one more than were written, if the disk failed in the next write.
abbrev pub reached : ℕ → Option Error → ℕ
reached done fault = if is_failure fault then done + 1 else done

-- Both places hold the table after k edits; or k is 0, and the disk was only read.
abbrev pub IsStoredAfter : GPT → List Edit → ℕ → DiskState → DiskState → Type 0
IsStoredAfter g edits k old new = ((k ≡ 0) × OnlyRead old new) ⊎ IsStored new g.sector_size (table_in (table_after g edits k))

-- Whatever a crash leaves, one place at least holds the table after k edits or, if the disk failed in the next write,
-- the table after k + 1 edits.
abbrev pub HoldsLast : DiskState → GPT → List Edit → ℕ → Bool → Type 0
HoldsLast disk g edits k failed = (b : List ℕ) → Image disk b
    → HoldsOneOf b g.sector_size (table_in (table_after g edits k) ∷ (if failed then table_in (table_after g edits (k + 1)) ∷ [] else []))

-- Nothing is unsynced. If the ranges of both copies do not overlap, they have the bytes of the value after k edits.
pub record HasContentsAfter (disk : DiskState) (g : GPT) (edits : List Edit) (k : ℕ) : Type 0 where
  pub synced : disk.pending ≡ []
  pub copies : AreApart (table_ranges g) → HasBothCopies disk.view (value_after g edits k) (other_with_checksums (table_after g edits k))

-- The place holds the table, whatever a crash leaves.
abbrev pub HoldsInAnyImage : DiskState → ℕ → CopyPlace → Table → Type 0
HoldsInAnyImage disk ss side t = (b : List ℕ) → Image disk b → Holds b ss side t

-- A place after k edits were written and the next one failed: unchanged, if k is 0; or holding the table after k or
-- k + 1 edits, whatever a crash leaves; or with an unsynced header.
pub data PlaceAfterEdits (side : CopyPlace) (g : GPT) (edits : List Edit) (k : ℕ) (old new : DiskState) : Type 0 where
  as_it_was : k ≡ 0 → IsLeftAlone (copy_ranges_at side (table_in g) g.sector_size old.size) old new → PlaceAfterEdits side g edits k old new
  holds_last : 0 < k → HoldsInAnyImage new g.sector_size side (table_in (table_after g edits k)) → PlaceAfterEdits side g edits k old new
  holds_next : HoldsInAnyImage new g.sector_size side (table_in (table_after g edits (k + 1))) → PlaceAfterEdits side g edits k old new
  header_pending : IsPending (copy_start side old.size g.sector_size, 92) new → PlaceAfterEdits side g edits k old new

-- Each place is unchanged, if k is 0; or holds the table after k or k + 1 edits, whatever a crash leaves; or has an
-- unsynced header.
abbrev pub BothPlacesAfterEdits : GPT → List Edit → ℕ → DiskState → DiskState → Type 0
BothPlacesAfterEdits g edits k old new = PlaceAfterEdits primary g edits k old new × PlaceAfterEdits backup g edits k old new
