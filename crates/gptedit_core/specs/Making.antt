-- A new table, and the order of writes when it replaces an old one.
use Rattle.std.specs.Prelude.{◌≡◌, ◌≤◌, ◌⊎◌, ◌+◌, ℕ, Bool, true, false, List, [], ◌∷◌, length, Option, Some, None, unwrap_or, nat_eq, if◌then◌else◌}
use Rattle.gptman.specs.Answers.{IsFailure}
use Rattle.gptman.specs.Crash.{other_place, AreReadFromEachCopy, IsKeptFor, IsReadInForm}
use Rattle.gptman.specs.Disk.{DiskState, OnlyRead, Wrote}
use Rattle.gptman.specs.Fault.{Fault, out_of_memory, overflow}
use Rattle.gptman.specs.Fit.{fit_fault, new_header_of}
use Rattle.gptman.specs.Layout.{HasLayout, copy_ranges_at}
use Rattle.gptman.specs.Ranges.{AreClear}
use Rattle.gptman.specs.Reading.{CopyPlace, primary, backup}
use Rattle.gptman.specs.Stop.{IsStored}
use Rattle.gptman.specs.Table.{Table, new_table_of, table_in}
use Rattle.gptman.specs.TableWrites.{table_ranges, MayBeWritten}
use Rattle.gptman.specs.Write.{other_header}
use Rattle.gptman.specs.declared.table.GPT.{GPT}
use Rattle.gptman.specs.declared.codec.header.GPTHeader.{GPTHeader}
use Rattle.gptman_change.specs.Changes.{StopsLeaveEither}
use Rattle.gptedit_core.specs.Applying.{IsApplied, RefusesAsked}
use Rattle.gptedit_core.specs.Planning.{IsLeftAs, IsWrittenAs, RefusesCheck}
use Rattle.gptedit_core.specs.Sectors.{between}
use Rattle.gptedit_core.specs.declared.asked.RequestedLayout.{RequestedLayout}
use Rattle.gptedit_core.specs.declared.making.Creation.{Creation}
use Rattle.gptedit_core.specs.declared.making.Made.{Made}
use Rattle.gptedit_core.specs.declared.making.Made.TheVariants.{New, Refused}
use Rattle.gptedit_core.specs.declared.order.Copy.{Copy}
use Rattle.gptedit_core.specs.declared.plan.Outcome.{Outcome}
use Rattle.gptedit_core.specs.declared.refusal.Refusal.{Refusal}
use Rattle.gptedit_core.specs.declared.refusal.Refusal.TheVariants.{NoSafeOrder, NotLaidOut, OutOfBounds, TooSmallFor}
use Rattle.gptedit_core.specs.declared.sectors.SectorRange.{SectorRange}

-- There are enough random GUIDs for the layout.
abbrev pub has_random_for : Option RequestedLayout → ℕ → Type 0
has_random_for None n = Unit {0}
has_random_for (Some layout) n = length layout.asked.items ≤ n

abbrev pub has_random_in : Creation → Type 0
has_random_in creation = has_random_for creation.layout (length creation.random.items)

-- A disk of len bytes has room for two copies of a table with count entries that do not overlap.
pub record HasRoomFor (count : ℕ) (guid : List ℕ) (ss len : ℕ) : Type 0 where
  pub fits : fit_fault (new_header_of count guid) ss len ≡ None
  pub layout : HasLayout (new_table_of count guid ss len) len

-- The bounds of the usable sectors are within those that the copies leave, and in order. They may leave no sector
-- usable.
pub record AreBounds (low high first last : ℕ) : Type 0 where
  pub first_is : low ≤ first
  pub last_is : last ≤ high
  pub ordered : first ≤ last + 1

-- The usable sectors of the table.
abbrev pub usable_of : GPT → SectorRange
usable_of g = between g.header.first_usable_lba g.header.last_usable_lba

-- The table with these bounds.
abbrev pub with_bounds : GPT → ℕ → ℕ → GPT
with_bounds g first last = record g { header = record g.header { first_usable_lba = first; last_usable_lba = last } }

-- The requested bounds, or those that the copies leave.
abbrev pub first_asked : Creation → GPT → ℕ
first_asked creation g = unwrap_or creation.first_usable g.header.first_usable_lba

abbrev pub last_asked : Creation → GPT → ℕ
last_asked creation g = unwrap_or creation.last_usable g.header.last_usable_lba

abbrev pub HasBounds : Creation → GPT → Type 0
HasBounds creation g = AreBounds g.header.first_usable_lba g.header.last_usable_lba (first_asked creation g) (last_asked creation g)

abbrev pub bounded : Creation → GPT → GPT
bounded creation g = with_bounds g (first_asked creation g) (last_asked creation g)

-- The layout, if there is one, was applied.
abbrev pub IsAppliedIf : Option RequestedLayout → List (List ℕ) → GPT → GPT → Type 0
IsAppliedIf None randoms g next = next ≡ g
IsAppliedIf (Some layout) randoms g next = IsApplied layout randoms g next

abbrev pub RefusesAskedIf : Option RequestedLayout → List (List ℕ) → GPT → Refusal → Type 0
RefusesAskedIf None randoms g r = ⊥
RefusesAskedIf (Some layout) randoms g r = RefusesAsked layout randoms g r

-- The table without partitions on a disk of len bytes.
abbrev pub empty_of : Creation → ℕ → ℕ → GPT
empty_of creation ss len = new_table_of creation.entries creation.guid ss len

abbrev pub HasRoomOf : Creation → ℕ → ℕ → Type 0
HasRoomOf creation ss len = HasRoomFor creation.entries creation.guid ss len

-- The table without partitions is returned if its header can be fitted.
abbrev pub IsFitted : ℕ → List ℕ → ℕ → ℕ → Option GPT → Type 0
IsFitted count guid ss len None = fit_fault (new_header_of count guid) ss len ≡ Some overflow
IsFitted count guid ss len (Some g) = (fit_fault (new_header_of count guid) ss len ≡ None) × (g ≡ new_table_of count guid ss len)

-- A table is returned if it has the stated layout.
abbrev pub KeepsLaidOut : Option GPT → ℕ → Option GPT → Type 0
KeepsLaidOut None len kept = kept ≡ None
KeepsLaidOut (Some g) len None = ¬ HasLayout g len
KeepsLaidOut (Some g) len (Some kept) = HasLayout g len × (kept ≡ g)

-- The table without partitions is returned if there is room for it.
abbrev pub IsEmptyFor : ℕ → List ℕ → ℕ → ℕ → Option GPT → Type 0
IsEmptyFor count guid ss len None = ¬ HasRoomFor count guid ss len
IsEmptyFor count guid ss len (Some g) = HasRoomFor count guid ss len × (g ≡ new_table_of count guid ss len)

abbrev pub IsEmpty : Creation → ℕ → ℕ → Option GPT → Type 0
IsEmpty creation ss len = IsEmptyFor creation.entries creation.guid ss len

-- A table without partitions becomes the new one on a disk of len bytes: its bounds are set, the layout is applied,
-- and the result may be written.
pub record IsFilled (creation : Creation) (len : ℕ) (empty next : GPT) : Type 0 where
  pub bounds : HasBounds creation empty
  pub applied : IsAppliedIf creation.layout creation.random.items (bounded creation empty) next
  pub may : MayBeWritten next len

-- The new table, in primary form, on a disk of len bytes with sectors of ss bytes.
pub record IsNew (creation : Creation) (ss len : ℕ) (next : GPT) : Type 0 where
  pub room : HasRoomOf creation ss len
  pub filled : IsFilled creation len (empty_of creation ss len) next

-- There is no new table, for the first of these reasons that applies.
pub data RefusesNew (creation : Creation) (ss len : ℕ) (r : Refusal) : Type 0 where
  too_small : ¬ HasRoomOf creation ss len → r ≡ TooSmallFor creation.entries → RefusesNew creation ss len r
  out_of_bounds : HasRoomOf creation ss len → ¬ HasBounds creation (empty_of creation ss len)
      → r ≡ OutOfBounds (usable_of (empty_of creation ss len)) → RefusesNew creation ss len r
  not_applied : HasRoomOf creation ss len → HasBounds creation (empty_of creation ss len)
      → RefusesAskedIf creation.layout creation.random.items (bounded creation (empty_of creation ss len)) r → RefusesNew creation ss len r
  not_valid : (next : GPT) → HasRoomOf creation ss len → HasBounds creation (empty_of creation ss len)
      → IsAppliedIf creation.layout creation.random.items (bounded creation (empty_of creation ss len)) next → RefusesCheck next r → RefusesNew creation ss len r

-- The new table, or why there is none.
abbrev pub IsPlannedNew : Creation → ℕ → ℕ → Made → Type 0
IsPlannedNew creation ss len (New next) = IsNew creation ss len next
IsPlannedNew creation ss len (Refused r) = RefusesNew creation ss len r

-- ---- over an old table

-- The place of the copy that a header describes.
abbrev pub copy_place_of : GPTHeader → CopyPlace
copy_place_of h = if nat_eq h.primary_lba 1 then primary else backup

-- A table in primary form, put into the form of a place.
abbrev pub put_at : CopyPlace → GPT → GPT
put_at primary g = g
put_at backup g = record g { header = other_header g.header }

-- The byte ranges of a copy.
abbrev pub ranges_of : Copy → List (ℕ × ℕ)
ranges_of copy = (copy.header.start, copy.header.length) ∷ (copy.entries.start, copy.entries.length) ∷ []

-- The two values have sectors of one size, and are in the form of the same place.
pub record AreOfOnePlace (g next : GPT) : Type 0 where
  pub sector : next.sector_size ≡ g.sector_size
  pub side : copy_place_of next.header ≡ copy_place_of g.header

-- On a disk of len bytes both values have the stated layout and are in the form of the same place, and the other copy
-- of the new one, which is written first, does not overlap the copy of the old one that was read.
pub record IsSafeOrder (g next : GPT) (len : ℕ) : Type 0 where
  pub place : AreOfOnePlace g next
  pub layout : HasLayout g len
  pub next_layout : HasLayout next len
  pub clear : AreClear (copy_ranges_at (copy_place_of g.header) (table_in g) g.sector_size len) (copy_ranges_at (other_place (copy_place_of g.header)) (table_in next) next.sector_size len)

-- The old table has the stated layout, or the write may lose both.
abbrev pub MayBeReplaced : Creation → GPT → ℕ → Type 0
MayBeReplaced creation g len = (creation.may_lose ≡ true) ⊎ HasLayout g len

-- The write has a safe order, or may lose both.
abbrev pub HasOrder : Bool → GPT → GPT → ℕ → Type 0
HasOrder may_lose g next len = (may_lose ≡ true) ⊎ IsSafeOrder g next len

-- A new table is made from the old one on a disk of len bytes, in the form of the old one. Its write has a safe order
-- unless it may lose both.
pub record IsRemade (creation : Creation) (len : ℕ) (g next : GPT) : Type 0 where
  pub made : GPT
  pub is_new : IsNew creation g.sector_size len made
  pub next_is : next ≡ put_at (copy_place_of g.header) made
  pub order : HasOrder creation.may_lose g next len

-- No new table is made from the old one, for the first of these reasons that applies.
pub data RefusesRemaking (creation : Creation) (len : ℕ) (g : GPT) (r : Refusal) : Type 0 where
  not_laid_out : ¬ MayBeReplaced creation g len → r ≡ NotLaidOut → RefusesRemaking creation len g r
  not_new : MayBeReplaced creation g len → RefusesNew creation g.sector_size len r → RefusesRemaking creation len g r
  no_order : (made : GPT) → MayBeReplaced creation g len → IsNew creation g.sector_size len made
      → ¬ HasOrder creation.may_lose g (put_at (copy_place_of g.header) made) len → r ≡ NoSafeOrder → RefusesRemaking creation len g r

-- A new table is always written, even if it equals the old one.
abbrev pub IsAlways : GPT → GPT → Type 0
IsAlways g next = Unit {0}

abbrev pub IsWrittenAnew : Creation → ℕ → GPT → GPT → Outcome → Type 0
IsWrittenAnew creation len = IsWrittenAs (IsRemade creation len) IsAlways creation.is_dry

abbrev pub IsLeftAnew : Creation → ℕ → GPT → Outcome → Type 0
IsLeftAnew creation len = IsLeftAs (IsRemade creation len) IsAlways (RefusesRemaking creation len) creation.is_dry

-- ---- without an old table

-- A table was written: no byte outside its four ranges changed, both places hold it, and each copy by itself is read
-- as it.
pub record IsOnDisk (next : GPT) (old new : DiskState) : Type 0 where
  pub wrote : Wrote (table_ranges next) old new
  pub stored : IsStored new next.sector_size (table_in next)
  pub each_copy : AreReadFromEachCopy new.view next

-- After Ok the new table was written; or it was a dry run, or the table is refused, and the disk was only read.
pub data AnswersMaking (creation : Creation) (ss : ℕ) (made : Made) (old new : DiskState) : Type 0 where
  is_made : (next : GPT) → IsNew creation ss old.size next → creation.is_dry ≡ false → IsOnDisk next old new → made ≡ New next → AnswersMaking creation ss made old new
  is_dry_run : (next : GPT) → IsNew creation ss old.size next → creation.is_dry ≡ true → OnlyRead old new → made ≡ New next → AnswersMaking creation ss made old new
  is_refused : (r : Refusal) → RefusesNew creation ss old.size r → OnlyRead old new → made ≡ Refused r → AnswersMaking creation ss made old new

-- An error has one of these reasons: an allocation failed, or the disk failed before the first write, and the disk
-- was only read; or the disk failed while the new table was written.
pub data RefusesMaking (creation : Creation) (ss : ℕ) (fault : Fault) (old new : DiskState) : Type 0 where
  no_memory : fault ≡ out_of_memory → OnlyRead old new → RefusesMaking creation ss fault old new
  failed_first : IsFailure fault old new → OnlyRead old new → RefusesMaking creation ss fault old new
  failed_then : (next : GPT) → IsNew creation ss old.size next → creation.is_dry ≡ false → IsFailure fault old new → Wrote (table_ranges next) old new
      → RefusesMaking creation ss fault old new

-- At every exit the disk was only read, or the new table was written, only in its four ranges. In the second case, if
-- one good copy of a table is clear of the ranges that are written first, a crash at any moment leaves that table or
-- the new one.
pub data LeavesMaking (creation : Creation) (ss : ℕ) (old new : DiskState) : Type 0 where
  unwritten : OnlyRead old new → LeavesMaking creation ss old new
  written : (next : GPT) → IsNew creation ss old.size next → Wrote (table_ranges next) old new
      → ((was : Table) → IsKeptFor old next was → StopsLeaveEither was (table_in next) next.sector_size old new) → LeavesMaking creation ss old new

-- A table that was read in the form of its place is one good copy for the write of a new one in a safe order.
abbrev pub SafeOrdersKeepACopy : DiskState → Type 0
SafeOrdersKeepACopy disk = (g next : GPT) → disk.pending ≡ [] → IsReadInForm disk.view g → IsSafeOrder g next disk.size → IsKeptFor disk next (table_in g)
