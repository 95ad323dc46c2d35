-- From the primary copy a plan that fits a table leaves the old or the planned one.
use Rattle.std.proofs.Common.{◌≡◌, ◌*◌, ◌∙◌, ℕ, List, [], ◌∷◌, false, inl, inr, refl, sym, subst, ap, Option}
use Rattle.gptman.specs.Crash.{other_place, IsKeptFor}
use Rattle.gptman.specs.Disk.{AgreesOutside, DiskState, OnlyRead}
use Rattle.gptman.specs.Layout.{HasLayout, Holds, copy_ranges_at}
use Rattle.gptman.specs.Ranges.{AreClear}
use Rattle.gptman.specs.Reading.{CopyPlace, backup, primary}
use Rattle.gptman.specs.Stop.{HoldsOneOf}
use Rattle.gptman.specs.Table.{Table, table_in, IsForm, IsHeaderForm}
use Rattle.gptman.specs.TableReads.{copy_of, MayBeRead}
use Rattle.gptman.specs.declared.table.GPT.{GPT}
use Rattle.gptman.proofs.Apart.{clear_if_apart}
use Rattle.gptman.proofs.Held.{holds_local}
use Rattle.gptman.proofs.ReadingLaw.{reads_one_of}
use Rattle.gptman.proofs.Ranges.{Ranges, contains_first}
use Rattle.gptman_change.specs.Changes.{begun, nothing_written, unwritten, written, IsSafe, LeavesChange, StopsLeaveEither}
use Rattle.gptman_change.specs.Reads.{size_for, IsReadFrom}
use Rattle.gptedit_core.specs.FittedReshaping.{IsWrittenBoth}
use Rattle.gptedit_core.specs.Fitting.{IsPlannedFitted, IsWrittenFitted}
use Rattle.gptedit_core.specs.Growing.{GrowthsKeepPrimary, IsFitted, IsGrown, IsWrittenGrown, StartsPrimary, StartsPrimaryFor}
use Rattle.gptedit_core.specs.Growing.IsFitted.{follows, is_usual, stays}
use Rattle.gptedit_core.specs.Making.{copy_place_of, IsSafeOrder}
use Rattle.gptedit_core.specs.declared.fitted_reshaping.FittedReshapedRequest.{FittedReshapedRequest}
use Rattle.gptedit_core.specs.declared.fitting.FittedRequest.{FittedRequest}
use Rattle.gptedit_core.specs.declared.growth.Bounds.{Bounds}
use Rattle.gptedit_core.specs.declared.growth.Bounds.TheVariants.{Kept}
use Rattle.gptedit_core.specs.declared.growth.Growth.{Growth}
use Rattle.gptedit_core.specs.declared.plan.Outcome.{Outcome}
use Rattle.gptedit_core.specs.declared.plan.Request.{Request}
use Rattle.gptedit_core.proofs.Growing.{fitted_sector}
use Rattle.gptedit_core.proofs.Kept.{done_places}
use Rattle.gptedit_core.proofs.Ordered.{side_first}
use Rattle.gptedit_core.proofs.Remade.{form_at, in_order}

-- A growth keeps the primary form and the number of entries.
fitted_form : (bounds : Bounds) (len : ℕ) (g next : GPT) → IsFitted bounds len g next → IsHeaderForm primary g.header → IsHeaderForm primary next.header
fitted_form bounds len g next (stays kept ends is) form = subst (λ (m : GPT). IsHeaderForm primary m.header) (sym is) form
fitted_form bounds len g next (follows kept ends first may is) form = subst (λ (m : GPT). IsHeaderForm primary m.header) (sym is) (rw (form.0, form.1) (refl, refl))
fitted_form bounds len g next (is_usual usual ends is) form = subst (λ (m : GPT). IsHeaderForm primary m.header) (sym is) (rw (form.0, form.1) (refl, refl))

fitted_count : (bounds : Bounds) (len : ℕ) (g next : GPT) → IsFitted bounds len g next → next.header.number_of_partition_entries ≡ g.header.number_of_partition_entries
fitted_count bounds len g next (stays kept ends is) = ap (λ (m : GPT). m.header.number_of_partition_entries) is
fitted_count bounds len g next (follows kept ends first may is) = ap (λ (m : GPT). m.header.number_of_partition_entries) is
fitted_count bounds len g next (is_usual usual ends is) = ap (λ (m : GPT). m.header.number_of_partition_entries) is

-- The primary ranges of a table with this number of entries do not overlap the backup ranges of the next one.
abbrev IsClearOf : ℕ → GPT → ℕ → Type 0
IsClearOf count next len =
    AreClear ((next.sector_size, 92) ∷ (2 * next.sector_size, 128 * count) ∷ []) (copy_ranges_at backup (table_in next) next.sector_size len)

-- The planned table keeps the sector size and the primary form, has the stated layout, and its backup ranges do not overlap
-- the primary ranges of the old one.
pub record FromPrimary (len : ℕ) (g next : GPT) : Type 0 where
  pub sector : next.sector_size ≡ g.sector_size
  pub form : IsHeaderForm primary g.header → IsHeaderForm primary next.header
  pub clear : IsHeaderForm primary g.header → IsClearOf g.header.number_of_partition_entries next len
  pub layout : HasLayout next len

-- So it is with the same number of entries.
with_count : (len : ℕ) (g next : GPT) → next.header.number_of_partition_entries ≡ g.header.number_of_partition_entries → HasLayout next len
    → IsClearOf g.header.number_of_partition_entries next len
with_count len g next count layout =
    subst (λ (n : ℕ). IsClearOf n next len) count
    (clear_if_apart (copy_ranges_at primary (table_in next) next.sector_size len) (copy_ranges_at backup (table_in next) next.sector_size len) layout.table.apart)

grown_from_primary : (bounds : Bounds) (len : ℕ) (g next : GPT) → IsGrown bounds len g next → FromPrimary len g next
grown_from_primary bounds len g next is = record {
  sector = fitted_sector bounds len g next is.fitted;
  form = fitted_form bounds len g next is.fitted;
  clear = λ form. with_count len g next (fitted_count bounds len g next is.fitted) is.layout;
  layout = is.layout;
}

fitted_from_primary : (request : Request) (len : ℕ) (g next : GPT) → IsPlannedFitted request len g next → FromPrimary len g next
fitted_from_primary request len g next is =
    let stays = done_places request.job request.random.items is.mid next is.planned.done in
    record {
      sector = stays.places.sector ∙ fitted_sector Kept len g is.mid is.fitted;
      form = λ form. stays.places.form primary (fitted_form Kept len g is.mid is.fitted form);
      clear = λ form. with_count len g next (stays.places.ranges.count ∙ fitted_count Kept len g is.mid is.fitted) (stays.layout len is.planned.layout);
      layout = stays.layout len is.planned.layout;
    }

-- A table that gets another shape is written in the form of the old one, and in a safe order.
order_from_primary : (len : ℕ) (g mid next : GPT) → IsFitted Kept len g mid → IsSafeOrder mid next len → FromPrimary len g next
order_from_primary len g mid next fitted order = record {
  sector = order.place.sector ∙ fitted_sector Kept len g mid fitted;
  form = λ form.
      let there : copy_place_of mid.header ≡ primary = side_first mid.header (fitted_form Kept len g mid fitted form).0 in
      subst (λ (side : CopyPlace). IsHeaderForm side next.header) (order.place.side ∙ there) (form_at next len order.next_layout);
  clear = λ form.
      let there : copy_place_of mid.header ≡ primary = side_first mid.header (fitted_form Kept len g mid fitted form).0 in
      let clear = subst (λ (side : CopyPlace). AreClear (copy_ranges_at side (table_in mid) mid.sector_size len) (copy_ranges_at (other_place side) (table_in next) next.sector_size len)) there order.clear in
      let sized = subst (λ (n : ℕ). AreClear (copy_ranges_at primary (table_in mid) n len) (copy_ranges_at backup (table_in next) next.sector_size len)) (sym order.place.sector) clear in
      subst (λ (n : ℕ). IsClearOf n next len) (fitted_count Kept len g mid fitted) sized;
  layout = order.next_layout;
}

kept_from_primary : (disk : DiskState) (was : Table) (g next : GPT) → disk.pending ≡ [] → Holds disk.view g.sector_size primary was → IsHeaderForm primary g.header
    → g.header.number_of_partition_entries ≡ was.count → FromPrimary disk.size g next → IsKeptFor disk next was
kept_from_primary disk was g next synced held form count is = record {
  synced = synced;
  side = primary;
  form = is.form form;
  held = subst (λ (n : ℕ). Holds disk.view n primary was) (sym is.sector) held;
  clear = subst (λ (n : ℕ). IsClearOf n next disk.size) count (is.clear form);
}

pub growths_keep_primary : (disk : DiskState) → GrowthsKeepPrimary disk
growths_keep_primary disk bounds was g next synced held form count is = kept_from_primary disk was g next synced held form count (grown_from_primary bounds disk.size g next is)

-- A read returns the table in the primary place.
read_primary : (old new : DiskState) (ss : ℕ) (was : Table) (g : GPT) → StartsPrimary old ss was → MayBeRead old new ss (copy_of g) → IsForm primary was (copy_of g)
read_primary old new ss was g good (inl first) =
    let same : good.held.copy ≡ copy_of g = cc (good.held.accepted, first) in
    subst (IsForm primary was) same good.held.form
read_primary old new ss was g good (inr second) = absurd (good.no_backup (copy_of g) second.0)

-- If nothing is written, a crash leaves it.
still_held : (old new : DiskState) (ss : ℕ) (was : Table) → StartsPrimary old ss was → OnlyRead old new → (b : List ℕ) → AgreesOutside [] old.view b → HoldsOneOf b ss (was ∷ [])
still_held old new ss was good only b agrees = record {
  side = primary;
  table = was;
  listed = contains_first was [];
  holds = holds_local old.view b ss primary was good.held (record { long = agrees.long; same = λ k inside. agrees.same k tt });
}

module _ (planned : GPT → GPT → Outcome → Type 0) (size : Option ℕ) (was : Table) (old new : DiskState) (good : StartsPrimaryFor old size was)
    (from : (table next : GPT) (answer : Outcome) → planned table next answer → FromPrimary old.size table next) where
  safe_written : (table next : GPT) → IsReadFrom size old new table → FromPrimary old.size table next
      → ((held : Table) → HasLayout next old.size → IsKeptFor old next held → StopsLeaveEither held (table_in next) next.sector_size old new)
      → (table_in table ≡ was) × StopsLeaveEither was (table_in next) (size_for old.view size) old new
  safe_written table next read is law =
      let ss : ℕ = size_for old.view size in
      let form = read_primary old new ss was table good (subst (λ (n : ℕ). MayBeRead old new n (copy_of table)) read.sector read.accepted) in
      let held : Holds old.view table.sector_size primary was = subst (λ (n : ℕ). Holds old.view n primary was) (sym read.sector) good.held in
      let kept = kept_from_primary old was table next good.synced held form.form (ap (λ (t : Table). t.count) form.table) is in (
        form.table,
        subst (λ (n : ℕ). StopsLeaveEither was (table_in next) n old new) (is.sector ∙ read.sector) (law was is.layout kept),
      )

  safe_plan : LeavesChange planned size old new → IsSafe planned (size_for old.view size) was old new
  safe_plan (unwritten only) =
      nothing_written (λ b left known. reads_one_of b (size_for old.view size) (was ∷ [])
      (still_held old new (size_for old.view size) was good only b
      (subst (λ (ranges : Ranges). AgreesOutside ranges old.view b) good.synced (only.wrote.crash b left))) known)
  safe_plan (written table next answer read made wrote law) =
      let is = safe_written table next read (from table next answer made) law in
      begun table next answer is.0 made is.1

pub safe_growth : (growth : Growth) (size : Option ℕ) (was : Table) (old new : DiskState) → StartsPrimaryFor old size was
    → LeavesChange (IsWrittenGrown growth old.size) size old new → IsSafe (IsWrittenGrown growth old.size) (size_for old.view size) was old new
safe_growth growth size was old new good =
    safe_plan (IsWrittenGrown growth old.size) size was old new good (λ table next answer made. grown_from_primary growth.bounds old.size table next made.planned)

pub safe_fitted : (fitted : FittedRequest) (size : Option ℕ) (was : Table) (old new : DiskState) → StartsPrimaryFor old size was
    → LeavesChange (IsWrittenFitted fitted old.size) size old new → IsSafe (IsWrittenFitted fitted old.size) (size_for old.view size) was old new
safe_fitted fitted size was old new good =
    safe_plan (IsWrittenFitted fitted old.size) size was old new good (λ table next answer made. fitted_from_primary fitted.request old.size table next made.planned)

pub safe_both : (both : FittedReshapedRequest) (size : Option ℕ) (was : Table) (old new : DiskState) → both.reshaped.may_lose ≡ false → StartsPrimaryFor old size was
    → LeavesChange (IsWrittenBoth both old.size) size old new → IsSafe (IsWrittenBoth both old.size) (size_for old.view size) was old new
safe_both both size was old new keeps good =
    safe_plan (IsWrittenBoth both old.size) size was old new good
    (λ table next answer made.
    let is = made.planned in
    order_from_primary old.size table is.mid next is.fitted (in_order is.mid next old.size both.reshaped.may_lose keeps is.made.order))
