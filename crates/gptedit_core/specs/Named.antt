-- The entries that a layout names, and those that it does not.
use Prim.Native.Nat.{◌∣◌}
use Rattle.std.specs.Prelude.{◌≡◌, ◌≢◌, ◌≤◌, ◌<◌, ◌⊎◌, ℕ, ◌+◌, List, [], ◌∷◌, Some, None, Ok, false, length, All, Contains, IsTrue}
use Rattle.gptman.specs.Coding.{empty_entry}
use Rattle.gptman.specs.Entry.{is_unused, is_used}
use Rattle.gptman.specs.Layout.{HasLayout}
use Rattle.gptman.specs.Number.{entry_at, with_entry, IsNumber}
use Rattle.gptman.specs.Place.{IsFreeIn}
use Rattle.gptman.specs.Table.{entries_in, table_in}
use Rattle.gptman.specs.Valid.{IsValid}
use Rattle.gptman.specs.declared.codec.entry.GPTPartitionEntry.{GPTPartitionEntry}
use Rattle.gptman.specs.declared.table.GPT.{GPT}
use Rattle.gptedit_core.specs.Dumping.{IsLayoutOf}
use Rattle.gptedit_core.specs.Applying.{rest_numbers, IsApplied}
use Rattle.gptedit_core.specs.Placing.{AreFreeBehind, IsBlocked, IsSpan}
use Rattle.gptedit_core.specs.Planning.{has_random, IsPlanned, RefusesRequest}
use Rattle.gptedit_core.specs.Resolving.{start_asked}
use Rattle.gptedit_core.specs.declared.asked.Asked.{Asked}
use Rattle.gptedit_core.specs.declared.asked.RequestedLayout.{RequestedLayout}
use Rattle.gptedit_core.specs.declared.asked.Mode.{Mode}
use Rattle.gptedit_core.specs.declared.asked.Mode.TheVariants.{Become, Change}
use Rattle.gptedit_core.specs.declared.asked.Size.TheVariants.{Rest}
use Rattle.gptedit_core.specs.declared.plan.Job.TheVariants.{Apply}
use Rattle.gptedit_core.specs.declared.plan.Request.{Request}
use Rattle.gptedit_core.specs.declared.refusal.Refusal.{Refusal}
use Rattle.gptedit_core.specs.declared.resolve.ResolvedPartition.{ResolvedPartition}
use Rattle.gptedit_core.specs.declared.sectors.SectorRange.{SectorRange}

-- No partition has the number.
abbrev pub IsUnnamed : ℕ → List ResolvedPartition → Type 0
IsUnnamed i ps = All (λ p. p.number ≢ i) ps

-- An entry that is not named is unchanged. If the table may only become the layout, it is unused.
abbrev pub StaysAs : Mode → GPTPartitionEntry → GPTPartitionEntry → Type 0
StaysAs (Become false) e after = (after ≡ e) × IsTrue (is_unused e)
StaysAs mode e after = after ≡ e

-- The partition is in the table next under its number, at the place that it had in g.
pub record IsThere (p : ResolvedPartition) (g next : GPT) : Type 0 where
  pub range : SectorRange
  pub span : IsSpan p.place g range
  pub entry : entry_at next p.number ≡ record p.entry { starting_lba = range.first; ending_lba = range.last }

-- All partitions are in the table next. The first had its place in g, and each other one in the table with those
-- before it.
abbrev pub AreThere : List ResolvedPartition → GPT → GPT → Type 0
AreThere [] g next = Unit {0}
AreThere (p ∷ ps) g next = IsThere p g next × AreThere ps (with_entry g p.number (entry_at next p.number)) next

-- The list has the number.
abbrev pub IsAmong : ℕ → List ℕ → Type 0
IsAmong i [] = ⊥
IsAmong i (j ∷ js) = (j ≡ i) ⊎ IsAmong i js

-- An entry starts where it did and ends no earlier: where it ended, or before a multiple of align and after sectors
-- that were free.
-- It could not end before a later multiple: a sector up to there is not left. An entry that ended before it started
-- is unchanged.
pub record IsLengthened (align : ℕ) (before after : GPTPartitionEntry) (free left : ℕ → Type 0) : Type 0 where
  pub start : after.starting_lba ≡ before.starting_lba
  pub end : before.ending_lba ≤ after.ending_lba
  pub reached : (after.ending_lba ≡ before.ending_lba) ⊎ ((before.starting_lba ≤ before.ending_lba) × (align ∣ after.ending_lba + 1) × AreFreeBehind free before.ending_lba after.ending_lba)
  pub furthest : before.starting_lba ≤ before.ending_lba → (e : ℕ) → align ∣ e + 1 → after.ending_lba < e → IsBlocked left before.ending_lba e

-- The entry starts where it did, and ends no earlier.
pub record KeepsStart (before after : GPTPartitionEntry) : Type 0 where
  pub start : after.starting_lba ≡ before.starting_lba
  pub end : before.ending_lba ≤ after.ending_lba

-- Entries that a layout neither names nor removes are unchanged. Those that it names were put into the table without
-- the named and removed ones, and are there. Only those that get the rest may then end later: after sectors that were
-- free when all were put, and as far as the resulting table has room without the entry.
-- A table that may only become the layout keeps each used entry that is not removed: it does not move or end earlier.
pub record ChangesNamed (layout : RequestedLayout) (randoms : List (List ℕ)) (g next : GPT) (is : IsApplied layout randoms g next) : Type 0 where
  pub others : (i : ℕ) → 1 ≤ i → IsUnnamed i is.partitions → All (λ j. j ≢ i) layout.removed.items → StaysAs layout.mode (entry_at g i) (entry_at next i)
  pub named : AreThere is.partitions is.free is.placed
  pub starts : layout.mode ≡ Become false → (i : ℕ) → IsNumber g i → All (λ j. j ≢ i) layout.removed.items → IsTrue (is_used (entry_at g i)) → KeepsStart (entry_at g i) (entry_at next i)
  pub exact : (i : ℕ) → 1 ≤ i → ¬ IsAmong i (rest_numbers layout.asked.items is.partitions) → entry_at next i ≡ entry_at is.placed i
  pub fields : (i : ℕ) → 1 ≤ i → entry_at next i ≡ record (entry_at is.placed i) { ending_lba = (entry_at next i).ending_lba }
  pub longer : (i : ℕ) → IsNumber next i → IsAmong i (rest_numbers layout.asked.items is.partitions)
      → IsLengthened is.align (entry_at is.placed i) (entry_at next i) (IsFreeIn is.placed) (IsFreeIn (with_entry next i empty_entry))

-- Each layout changes only the entries that it names or removes.
abbrev pub LayoutsChangeNamed : Type 0
LayoutsChangeNamed = (layout : RequestedLayout) (randoms : List (List ℕ)) (g next : GPT) (is : IsApplied layout randoms g next) → ChangesNamed layout randoms g next is

-- Applying the layout of a table to that table results in an equal table.
abbrev pub LayoutsGiveTable : Type 0
LayoutsGiveTable = (g next : GPT) (layout : RequestedLayout) (randoms : List (List ℕ)) → IsLayoutOf g layout → length layout.asked.items ≤ length randoms → IsApplied layout randoms g next
    → table_in next ≡ table_in g

-- A request that applies the layout of a table to it is not refused, if the table has the stated layout and is valid,
-- its alignment is above 0, and there are enough random GUIDs.
abbrev pub LayoutsAreTaken : Type 0
LayoutsAreTaken = (g : GPT) (len : ℕ) (layout : RequestedLayout) (request : Request) (r : Refusal) → IsLayoutOf g layout → request.job ≡ Apply layout
    → length layout.asked.items ≤ length request.random.items → 0 < g.align → HasLayout g len → IsValid g.header (entries_in g) → ¬ RefusesRequest request len g r

-- Each request has a number.
abbrev pub AreNumbered : List Asked → Type 0
AreNumbered [] = Unit {0}
AreNumbered (a ∷ asked) = ((i : ℕ) × (a.number ≡ Some i)) × AreNumbered asked

-- The second layout requests the same, and the table may only become it.
pub record IsAgain (layout again : RequestedLayout) : Type 0 where
  pub asked : again.asked.items ≡ layout.asked.items
  pub disk_guid : again.disk_guid ≡ layout.disk_guid
  pub align : again.align ≡ layout.align
  pub mode : again.mode ≡ Become false
  pub removed : again.removed.items ≡ []

-- A layout that numbers each entry and was applied, in any mode, changes nothing if it is applied again and the table
-- may only become it.
abbrev pub LayoutsStay : Type 0
LayoutsStay = (g next after : GPT) (layout again : RequestedLayout) (randoms others : List (List ℕ)) → AreNumbered layout.asked.items → IsAgain layout again
    → length layout.asked.items ≤ length randoms → length layout.asked.items ≤ length others
    → IsApplied layout randoms g next → IsApplied again others next after → after ≡ next

-- The number is requested.
abbrev pub Asks : ℕ → List Asked → Type 0
Asks i [] = ⊥
Asks i (a ∷ asked) = (a.number ≡ Some i) ⊎ Asks i asked

-- The table has no other used entries: it may only become the layout, or each used entry is requested or removed.
abbrev pub IsWhole : RequestedLayout → GPT → Type 0
IsWhole layout g = (layout.mode ≡ Become false) ⊎ ((i : ℕ) → 1 ≤ i → IsTrue (is_used (entry_at g i)) → Asks i layout.asked.items ⊎ Contains layout.removed.items i)

-- A request with a whole layout that numbers each entry is not refused a second time, if the table may only become
-- the layout.
abbrev pub LayoutsAreTakenAgain : Type 0
LayoutsAreTakenAgain = (g next : GPT) (len : ℕ) (layout again : RequestedLayout) (request other : Request) (r : Refusal) → request.job ≡ Apply layout → other.job ≡ Apply again
    → AreNumbered layout.asked.items → IsAgain layout again → IsWhole layout g → has_random request → has_random other
    → IsPlanned request len g next → ¬ RefusesRequest other len next r

-- No start is requested, or that of the entry, with sectors of ss bytes.
abbrev pub BeginsThere : Asked → ℕ → GPTPartitionEntry → Type 0
BeginsThere a ss e = (a.start ≡ None) ⊎ (start_asked a.start ss ≡ Ok (Some e.starting_lba))

-- A request for the rest, from where a used entry starts, only lengthens it: over sectors that are free in the table
-- without the named and removed entries, and as far as the resulting table has room without the entry.
abbrev pub LayoutsOnlyLengthen : Type 0
LayoutsOnlyLengthen = (layout : RequestedLayout) (randoms : List (List ℕ)) (g next : GPT) (a : Asked) (i : ℕ) → (layout.mode ≡ Change) ⊎ IsTrue (is_used (entry_at g i))
    → length layout.asked.items ≤ length randoms
    → Contains layout.asked.items a → a.number ≡ Some i → a.size ≡ Some Rest → BeginsThere a g.sector_size (entry_at g i)
    → (is : IsApplied layout randoms g next) → IsLengthened is.align (entry_at g i) (entry_at next i) (IsFreeIn is.free) (IsFreeIn (with_entry next i empty_entry))
