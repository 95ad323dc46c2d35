-- A table gets another number of entries and other usable sectors, and a request makes the planned table of it.
use Rattle.std.specs.Prelude.{◌≡◌, ◌≢◌, ◌≤◌, ◌<◌, ◌+◌, ◌-◌, ◌*◌, ◌&&◌, ℕ, max, min, List, [], ◌∷◌, ◌++◌, length, replicate, take, Option, None, Some, nat_eq, nat_lt, if◌then◌else◌, unwrap_or}
use Rattle.std.specs.Int.{div_ceil}
use Rattle.std.specs.List.{enumerate_from}
use Rattle.gptman.specs.Coding.{empty_entry}
use Rattle.gptman.specs.Entry.{is_used}
use Rattle.gptman.specs.Layout.{HasLayout}
use Rattle.gptman.specs.Number.{entry_of_number, with_entries}
use Rattle.gptman.specs.Reading.{CopyPlace, primary, backup}
use Rattle.gptman.specs.Table.{entries_in, new_table_of}
use Rattle.gptman.specs.TableWrites.{MayBeWritten}
use Rattle.gptman.specs.declared.codec.entry.GPTPartitionEntry.{GPTPartitionEntry}
use Rattle.gptman.specs.declared.table.GPT.{GPT}
use Rattle.gptedit_core.specs.Making.{copy_place_of, usable_of, with_bounds, AreBounds, HasOrder, HasRoomFor}
use Rattle.gptedit_core.specs.Planning.{has_random, IsDone, IsLeftAs, IsNeeded, IsPlanned, IsWrittenAs, RefusesCheck, RefusesJob}
use Rattle.gptedit_core.specs.declared.plan.Outcome.{Outcome}
use Rattle.gptedit_core.specs.declared.refusal.Refusal.{Refusal}
use Rattle.gptedit_core.specs.declared.refusal.Refusal.TheVariants.{NoEntry, NoSafeOrder, NotLaidOut, OutOfBounds, TooSmallFor}
use Rattle.gptedit_core.specs.declared.reshaping.ReshapedRequest.{ReshapedRequest}
use Rattle.gptedit_core.specs.declared.reshaping.Shape.{Shape}
use Rattle.gptedit_core.specs.declared.reshaping.StatedShape.{StatedShape}

-- ---- the shape that a layout states

-- The sectors of count entries; a sector has at least one byte.
abbrev pub sectors_of_entries : ℕ → ℕ → ℕ
sectors_of_entries count ss = div_ceil (count * 128) (max ss 1)

-- The last sector, that of the backup header.
abbrev pub last_sector_of : GPT → ℕ
last_sector_of g = max g.header.primary_lba g.header.backup_lba

-- The first usable sector if none is stated: it stays where the entries take as many sectors as before, and is that
-- behind the new entries if it was that behind the old ones, or if they reach over it.
abbrev pub kept_first : ℕ → ℕ → ℕ → ℕ
kept_first is old new = if nat_eq old new then is else if nat_eq is (2 + old) then 2 + new else max is (2 + new)

-- The last usable sector if none is stated, as kept_first, from the last sector.
abbrev pub kept_last : ℕ → ℕ → ℕ → ℕ → ℕ
kept_last is last old new = if nat_eq old new then is else if nat_eq is (last - old - 1) then last - new - 1 else min is (last - new - 1)

-- The number of entries and the usable sectors of the table, with the stated ones.
abbrev pub shape_of : GPT → StatedShape → Shape
shape_of g stated =
    let count : ℕ = unwrap_or stated.entries g.header.number_of_partition_entries in
    let old : ℕ = sectors_of_entries g.header.number_of_partition_entries g.sector_size in
    let new : ℕ = sectors_of_entries count g.sector_size in
    record {
      entries = count;
      first_usable = unwrap_or stated.first_usable (kept_first g.header.first_usable_lba old new);
      last_usable = unwrap_or stated.last_usable (kept_last g.header.last_usable_lba (last_sector_of g) old new);
    }

-- ---- the table before and after the request

-- The entries, and unused ones after them up to n.
abbrev pub padded : ℕ → List GPTPartitionEntry → List GPTPartitionEntry
padded n es = es ++ replicate (n - length es) empty_entry

-- The table with the usable sectors of the shape, and with unused entries up to its number.
abbrev pub widened : Shape → GPT → GPT
widened shape g = with_entries (with_bounds g shape.first_usable shape.last_usable) (padded shape.entries (entries_in g))

-- The first sector of the entries of a copy.
abbrev pub entries_sector : CopyPlace → ℕ → ℕ
entries_sector primary last = 2
entries_sector backup last = last + 1

-- The table with the number of entries of the shape, in the form of its place.
abbrev pub cut : Shape → GPT → GPT
cut shape g = record g {
  header = record g.header {
    number_of_partition_entries = shape.entries;
    partition_entry_lba = entries_sector (copy_place_of g.header) shape.last_usable;
  };
  partitions = take shape.entries (entries_in g);
}

-- The first number above n of a used entry.
abbrev pub first_above : ℕ → List (ℕ × GPTPartitionEntry) → Option ℕ
first_above n [] = None
first_above n (e ∷ es) = if nat_lt n e.0 && is_used e.1 then Some e.0 else first_above n es

abbrev pub lowest_above : ℕ → GPT → Option ℕ
lowest_above n g = first_above n (enumerate_from 1 (entries_in g))

-- The new table without partitions has room on a disk of len bytes, and the usable sectors are between its copies.
abbrev pub HasRoomAt : Shape → GPT → ℕ → Type 0
HasRoomAt shape g len = HasRoomFor shape.entries g.header.disk_guid g.sector_size len

abbrev pub blank_of : Shape → GPT → ℕ → GPT
blank_of shape g len = new_table_of shape.entries g.header.disk_guid g.sector_size len

abbrev pub HasBoundsAt : Shape → GPT → ℕ → Type 0
HasBoundsAt shape g len =
    AreBounds (blank_of shape g len).header.first_usable_lba (blank_of shape g len).header.last_usable_lba shape.first_usable shape.last_usable

-- The job makes mid of g with the usable sectors of the shape.
abbrev pub IsDoneAt : ReshapedRequest → GPT → GPT → Type 0
IsDoneAt reshaped g mid = IsDone reshaped.request.job reshaped.request.random.items (widened reshaped.shape g) mid

-- A request makes next of g on a disk of len bytes. g has the stated layout there. The job is done on g with the usable
-- sectors and the entries of the shape. No entry after the last is used. The result may be written, in a safe order.
pub record IsReshaped (reshaped : ReshapedRequest) (len : ℕ) (g next : GPT) : Type 0 where
  pub layout : HasLayout g len
  pub room : HasRoomAt reshaped.shape g len
  pub bounds : HasBoundsAt reshaped.shape g len
  pub mid : GPT
  pub done : IsDoneAt reshaped g mid
  pub spare : lowest_above reshaped.shape.entries mid ≡ None
  pub next_is : next ≡ cut reshaped.shape mid
  pub may : MayBeWritten next len
  pub order : HasOrder reshaped.may_lose g next len

-- A request is refused on a disk of len bytes, for the first of these reasons that applies.
pub data RefusesReshaped (reshaped : ReshapedRequest) (len : ℕ) (g : GPT) (r : Refusal) : Type 0 where
  not_laid_out : ¬ HasLayout g len → r ≡ NotLaidOut → RefusesReshaped reshaped len g r
  too_small : HasLayout g len → ¬ HasRoomAt reshaped.shape g len → r ≡ TooSmallFor reshaped.shape.entries → RefusesReshaped reshaped len g r
  out_of_bounds : HasLayout g len → HasRoomAt reshaped.shape g len → ¬ HasBoundsAt reshaped.shape g len
      → r ≡ OutOfBounds (usable_of (blank_of reshaped.shape g len)) → RefusesReshaped reshaped len g r
  not_done : HasLayout g len → HasRoomAt reshaped.shape g len → HasBoundsAt reshaped.shape g len
      → RefusesJob reshaped.request.job reshaped.request.random.items (widened reshaped.shape g) r → RefusesReshaped reshaped len g r
  above : (mid : GPT) (i : ℕ) → HasLayout g len → HasRoomAt reshaped.shape g len → HasBoundsAt reshaped.shape g len
      → IsDoneAt reshaped g mid → lowest_above reshaped.shape.entries mid ≡ Some i → r ≡ NoEntry i → RefusesReshaped reshaped len g r
  not_written : (mid : GPT) → HasLayout g len → HasRoomAt reshaped.shape g len → HasBoundsAt reshaped.shape g len
      → IsDoneAt reshaped g mid → lowest_above reshaped.shape.entries mid ≡ None → RefusesCheck (cut reshaped.shape mid) r → RefusesReshaped reshaped len g r
  no_order : (mid : GPT) → HasLayout g len → HasRoomAt reshaped.shape g len → HasBoundsAt reshaped.shape g len
      → IsDoneAt reshaped g mid → lowest_above reshaped.shape.entries mid ≡ None → MayBeWritten (cut reshaped.shape mid) len
      → ¬ HasOrder reshaped.may_lose g (cut reshaped.shape mid) len → r ≡ NoSafeOrder → RefusesReshaped reshaped len g r

-- There are enough random GUIDs for the request.
abbrev pub has_random_reshaped : ReshapedRequest → Type 0
has_random_reshaped reshaped = has_random reshaped.request

-- The table that is written and its outcome; the outcome if nothing is written.
abbrev pub IsWrittenReshaped : ReshapedRequest → ℕ → GPT → GPT → Outcome → Type 0
IsWrittenReshaped reshaped len = IsWrittenAs (IsReshaped reshaped len) (IsNeeded reshaped.request.job) reshaped.request.is_dry

abbrev pub IsLeftReshaped : ReshapedRequest → ℕ → GPT → Outcome → Type 0
IsLeftReshaped reshaped len =
    IsLeftAs (IsReshaped reshaped len) (IsNeeded reshaped.request.job) (RefusesReshaped reshaped len) reshaped.request.is_dry

-- ---- consequences

-- The table has the shape: its number of entries and its usable sectors.
pub record HasShape (shape : Shape) (g : GPT) : Type 0 where
  pub count : g.header.number_of_partition_entries ≡ shape.entries
  pub entries : length (entries_in g) ≡ shape.entries
  pub first : g.header.first_usable_lba ≡ shape.first_usable
  pub last : g.header.last_usable_lba ≡ shape.last_usable

-- The table that is made has the shape, and has the stated layout on the disk.
abbrev pub ReshapedTablesHaveShape : Type 0
ReshapedTablesHaveShape = (reshaped : ReshapedRequest) (len : ℕ) (g next : GPT) → IsReshaped reshaped len g next → HasShape reshaped.shape next × HasLayout next len

-- The table that is made has the entries of the result of the job, up to its number of entries.
abbrev pub ReshapedTablesKeepEntries : Type 0
ReshapedTablesKeepEntries = (shape : Shape) (g : GPT) (i : ℕ) → i ≤ shape.entries → entry_of_number (cut shape g) i ≡ entry_of_number g i

-- For a table that has the shape it is the table that the request alone makes.
abbrev pub ReshapedRequestsAddNothing : Type 0
ReshapedRequestsAddNothing = (reshaped : ReshapedRequest) (len : ℕ) (g next : GPT) → HasShape reshaped.shape g → IsReshaped reshaped len g next → IsPlanned reshaped.request len g next

-- A layout that states nothing states the shape of the table.
abbrev pub NothingStatedIsKept : Type 0
NothingStatedIsKept = (g : GPT) (stated : StatedShape) → stated.entries ≡ None → stated.first_usable ≡ None → stated.last_usable ≡ None
    → length (entries_in g) ≡ g.header.number_of_partition_entries → HasShape (shape_of g stated) g

-- ---- consequences for the shape that a layout states

-- The sectors have room for count entries. One sector less does not.
pub record HoldEntries (count ss sectors : ℕ) : Type 0 where
  pub all : count * 128 ≤ sectors * ss
  pub fewest : sectors * ss < count * 128 + ss

-- Entries take the fewest sectors that have room for them.
abbrev pub EntriesTakeFewestSectors : Type 0
EntriesTakeFewestSectors = (count ss : ℕ) → 0 < ss → HoldEntries count ss (sectors_of_entries count ss)

-- The sectors that the entries of the table take, and those that the entries of a shape of it take.
abbrev pub old_sectors : GPT → ℕ
old_sectors g = sectors_of_entries g.header.number_of_partition_entries g.sector_size

abbrev pub new_sectors : GPT → Shape → ℕ
new_sectors g shape = sectors_of_entries shape.entries g.sector_size

-- The shape has each stated value. It has the number of entries of the table if none is stated.
pub record TakesStated (g : GPT) (stated : StatedShape) (shape : Shape) : Type 0 where
  pub entries : (n : ℕ) → stated.entries ≡ Some n → shape.entries ≡ n
  pub count : stated.entries ≡ None → shape.entries ≡ g.header.number_of_partition_entries
  pub first : (n : ℕ) → stated.first_usable ≡ Some n → shape.first_usable ≡ n
  pub last : (n : ℕ) → stated.last_usable ≡ Some n → shape.last_usable ≡ n

-- The shape has each stated value, and the number of entries of the table if none is stated.
abbrev pub StatedValuesAreTaken : Type 0
StatedValuesAreTaken = (g : GPT) (stated : StatedShape) → TakesStated g stated (shape_of g stated)

-- A usable sector that is not stated leaves room for the entries of the shape, if that of the table leaves room for the
-- entries of the table. The primary entries begin in sector 2, and the backup entries end before the last sector. The
-- premise on the last sector says that the backup entries fit on the disk. If they do not, sector 0 has no room either.
pub record LeavesRoom (g : GPT) (stated : StatedShape) (shape : Shape) : Type 0 where
  pub first : stated.first_usable ≡ None → 2 + old_sectors g ≤ g.header.first_usable_lba → 2 + new_sectors g shape ≤ shape.first_usable
  pub last : stated.last_usable ≡ None → g.header.last_usable_lba + old_sectors g + 1 ≤ last_sector_of g → new_sectors g shape + 1 ≤ last_sector_of g
      → shape.last_usable + new_sectors g shape + 1 ≤ last_sector_of g

-- A usable sector that is not stated leaves room for the entries of the shape, if that of the table leaves room for the
-- entries of the table.
abbrev pub CompleteShapesLeaveRoom : Type 0
CompleteShapesLeaveRoom = (g : GPT) (stated : StatedShape) → LeavesRoom g stated (shape_of g stated)

-- The first usable sector was `was` and is `now`, and the entries take `new` sectors in place of `old` ones. If it was
-- next to the entries, it still is. Otherwise it stays unless the new entries reach over it. It stays if the entries
-- take as many sectors as before. It moves only to the sector next to the new entries.
pub record IsFirstFor (old new was now : ℕ) : Type 0 where
  pub next : was ≡ 2 + old → now ≡ 2 + new
  pub apart : was ≢ 2 + old → 2 + new ≤ was → now ≡ was
  pub same : old ≡ new → now ≡ was
  pub moved : now ≢ was → now ≡ 2 + new

-- The last usable sector, as the first one. The backup entries end before sector `end`. The premises on `end` say that
-- the new entries, or the old ones, fit there. If they do not, no sector is next to them, and the difference is 0.
pub record IsLastFor (end old new was now : ℕ) : Type 0 where
  pub next : was + old + 1 ≡ end → new + 1 ≤ end → now + new + 1 ≡ end
  pub apart : was + old + 1 ≢ end → old + 1 ≤ end → was + new + 1 ≤ end → now ≡ was
  pub same : old ≡ new → now ≡ was
  pub moved : now ≢ was → now ≡ end - new - 1

-- Each usable sector that is not stated moves only with the entries.
pub record MovesWithEntries (g : GPT) (stated : StatedShape) (shape : Shape) : Type 0 where
  pub first : stated.first_usable ≡ None → IsFirstFor (old_sectors g) (new_sectors g shape) g.header.first_usable_lba shape.first_usable
  pub last : stated.last_usable ≡ None
      → IsLastFor (last_sector_of g) (old_sectors g) (new_sectors g shape) g.header.last_usable_lba shape.last_usable

-- A usable sector that is not stated stays next to the entries if it was. Otherwise it moves only if the entries of the
-- shape reach over it, and then to the sector next to them.
abbrev pub CompleteShapesMoveWithEntries : Type 0
CompleteShapesMoveWithEntries = (g : GPT) (stated : StatedShape) → MovesWithEntries g stated (shape_of g stated)
