-- A table gets another number of entries and other usable sectors.
use Rattle.std.proofs.Common.{◌≡◌, inl, refl, sym, ap, ◌∙◌, subst, ℕ, zero, suc, ◌+◌, ◌-◌, ◌≤◌, ◌<◌, ◌^◌, Bool, true, false, List, [], ◌∷◌, ◌++◌, length, map, take, replicate, max, min, arith}
use Rattle.std.specs.Prelude.{if◌then◌else◌, nat_eq, nat_le, slice_get, unwrap_or, Option, Some, None}
use Rattle.std.specs.List.{enumerate_from}
use Rattle.std.proofs.lemmas.Bool.{eq-eqb, leb-true}
use Rattle.std.proofs.lemmas.List.{append-nil, length-append, length-map, length-replicate, length-take-le, take_all}
use Rattle.gptman.specs.Coding.{empty_entry}
use Rattle.gptman.specs.Copy.{IsCoherent}
use Rattle.gptman.specs.Layout.{HasLayout}
use Rattle.gptman.specs.Reading.{CopyPlace, primary, backup}
use Rattle.gptman.specs.Table.{entries_in, IsHeaderForm}
use Rattle.gptman.specs.declared.codec.entry.GPTPartitionEntry.{GPTPartitionEntry}
use Rattle.gptman.specs.declared.codec.header.GPTHeader.{GPTHeader}
use Rattle.gptman.specs.declared.table.GPT.{GPT}
use Rattle.gptman.proofs.Commits.{KeepsRanges}
use Rattle.gptman.specs.TableWrites.{MayBeWritten}
use Rattle.gptedit_core.specs.Applying.{IsStopOf}
use Rattle.gptedit_core.specs.Making.{copy_place_of, usable_of, AreBounds, HasOrder}
use Rattle.gptedit_core.specs.Planning.{IsDone, RefusesCheck, RefusesJob}
use Rattle.gptedit_core.specs.Reshaping.{blank_of, cut, entries_sector, kept_first, kept_last, last_sector_of, lowest_above, padded, sectors_of_entries, widened}
use Rattle.gptedit_core.specs.Reshaping.{HasBoundsAt, HasRoomAt, HasShape, IsDoneAt, IsReshaped, NothingStatedIsKept, RefusesReshaped, ReshapedRequestsAddNothing, ReshapedTablesHaveShape, ReshapedTablesKeepEntries}
use Rattle.gptedit_core.specs.Reshaping.RefusesReshaped.{above, no_order, not_done, not_written, out_of_bounds}
use Rattle.gptedit_core.specs.declared.refusal.Refusal.TheVariants.{NoEntry, NoSafeOrder, OutOfBounds}
use Rattle.gptedit_core.specs.declared.reshaping.ReshapedRequest.{ReshapedRequest}
use Rattle.gptedit_core.specs.declared.reshaping.Shape.{Shape}
use Rattle.gptedit_core.specs.declared.refusal.Stop.{Stop}
use Rattle.gptedit_core.specs.declared.refusal.Stop.TheVariants.{Refused, Failed}
use Rattle.gptedit_core.proofs.Bounded.{bounded_layout}
use Rattle.gptedit_core.proofs.Kept.{done_keeps, done_layout}
use Rattle.gptedit_core.proofs.Remade.{form_at}

-- The padded list has at least n entries.
padded_long : (n : ℕ) (es : List GPTPartitionEntry) → n ≤ length (padded n es)
padded_long n es = omega (arith, length-append es (replicate (n - length es) empty_entry), length-replicate (n - length es) empty_entry)

-- A header whose entries begin in the sector of its place is in the form of it.
form_cut : (side : CopyPlace) (h k : GPTHeader) → k.primary_lba ≡ h.primary_lba → k.backup_lba ≡ h.backup_lba → k.partition_entry_lba ≡ entries_sector side k.last_usable_lba
    → IsHeaderForm side h → IsHeaderForm side k
form_cut primary h k first second there form = (first ∙ form.0, there)
form_cut backup h k first second there form = (second ∙ form.0, there)

module _ (reshaped : ReshapedRequest) (len : ℕ) (g mid : GPT) (layout : HasLayout g len) (room : HasRoomAt reshaped.shape g len) (bounds : HasBoundsAt reshaped.shape g len)
    (done : IsDoneAt reshaped g mid) where
  abbrev shape : Shape
  shape = reshaped.shape

  keeps : KeepsRanges (widened shape g) mid
  keeps = done_keeps reshaped.request.job reshaped.request.random.items (widened shape g) mid done

  long : length (take shape.entries (entries_in mid)) ≡ shape.entries
  long =
      let enough = padded_long shape.entries (entries_in g) in
      length-take-le shape.entries (entries_in mid) (omega (arith, enough, keeps.long))

  -- The table with the header that the job keeps.
  abbrev with_header : GPTHeader → GPT
  with_header h = record mid {
    header = record h {
      number_of_partition_entries = shape.entries;
      partition_entry_lba = entries_sector (copy_place_of h) shape.last_usable;
    };
    partitions = take shape.entries (entries_in mid);
  }

  abbrev at_size : ℕ → GPTHeader → GPT
  at_size ss h = record (with_header h) { sector_size = ss }

  abbrev kept_header : GPTHeader
  kept_header = record (widened shape g).header {
    disk_guid = mid.header.disk_guid;
    crc32_checksum = mid.header.crc32_checksum;
    partition_entry_array_crc32 = mid.header.partition_entry_array_crc32;
  }

  kept_layout : HasLayout (at_size g.sector_size kept_header) len
  kept_layout =
      let there = (bounded_layout shape.entries g.header.disk_guid g.sector_size len room shape.first_usable shape.last_usable bounds).table in
      let was = layout.table in
      record {
        table = record {
          sector = was.sector;
          signature = was.signature;
          revision = was.revision;
          header_size = was.header_size;
          entry_size = was.entry_size;
          entries = length-map (take shape.entries (entries_in mid)) _ ∙ long;
          low_sector = was.low_sector;
          high_sector = was.high_sector;
          inside = there.inside;
          apart = there.apart;
          fits = there.fits;
        };
        side = copy_place_of g.header;
        form = form_cut (copy_place_of g.header) g.header (at_size g.sector_size kept_header).header refl refl refl (form_at g len layout);
      }

  pub cut_layout : HasLayout (cut shape mid) len
  cut_layout =
      subst (λ (ss : ℕ). HasLayout (at_size ss mid.header) len) (sym keeps.sector)
      (subst (λ (h : GPTHeader). HasLayout (at_size g.sector_size h) len) (sym keeps.header) kept_layout)

  pub cut_sector : (cut shape mid).sector_size ≡ g.sector_size
  cut_sector = keeps.sector

  pub last_fits : shape.last_usable + 1 < 2 ^ 64
  last_fits = (bounded_layout shape.entries g.header.disk_guid g.sector_size len room shape.first_usable shape.last_usable bounds).table.fits

-- ---- the table that is made

module _ (reshaped : ReshapedRequest) (len : ℕ) (g next : GPT) (is : IsReshaped reshaped len g next) where
  pub reshaped_layout : HasLayout next len
  reshaped_layout = subst (λ (m : GPT). HasLayout m len) (sym is.next_is) (cut_layout reshaped len g is.mid is.layout is.room is.bounds is.done)

  pub reshaped_sector : next.sector_size ≡ g.sector_size
  reshaped_sector = ap (λ (m : GPT). m.sector_size) is.next_is ∙ cut_sector reshaped len g is.mid is.layout is.room is.bounds is.done

  has_shape : HasShape reshaped.shape next
  has_shape =
      let kept = keeps reshaped len g is.mid is.layout is.room is.bounds is.done in
      let header = ap (λ (m : GPT). m.header) is.next_is in
      record {
        count = ap (λ (h : GPTHeader). h.number_of_partition_entries) header;
        entries = ap (λ (m : GPT). length (entries_in m)) is.next_is ∙ long reshaped len g is.mid is.layout is.room is.bounds is.done;
        first = ap (λ (h : GPTHeader). h.first_usable_lba) header ∙ ap (λ (h : GPTHeader). h.first_usable_lba) kept.header;
        last = ap (λ (h : GPTHeader). h.last_usable_lba) header ∙ ap (λ (h : GPTHeader). h.last_usable_lba) kept.header;
      }

  pub reshaped_coherent : IsCoherent next.header (entries_in next)
  reshaped_coherent = record {
    header_size = reshaped_layout.table.header_size;
    count = has_shape.entries ∙ sym has_shape.count;
    entry_size = inl reshaped_layout.table.entry_size;
  }

pub have_shape : ReshapedTablesHaveShape
have_shape reshaped len g next is = (has_shape reshaped len g next is, reshaped_layout reshaped len g next is)

-- ---- entries

pub map_numbered : (n : ℕ) (es : List GPTPartitionEntry) → map (λ (p : ℕ × GPTPartitionEntry). p.1) (enumerate_from n es) ≡ es
map_numbered n [] = refl
map_numbered n (e ∷ es) = ap (λ (rest : List GPTPartitionEntry). e ∷ rest) (map_numbered (n + 1) es)

get_take : (n k : ℕ) (es : List GPTPartitionEntry) → k < n → slice_get (take n es) k ≡ slice_get es k
get_take zero k es below = absurd (omega (arith, below))
get_take (suc n) k [] below = refl
get_take (suc n) zero (e ∷ es) below = refl
get_take (suc n) (suc k) (e ∷ es) below = get_take n k es (omega (arith, below))

found_alike : (b : Bool) (n k : ℕ) (es : List GPTPartitionEntry) → (b ≡ true → k < n)
    → (if b then slice_get (take n es) k else None) ≡ (if b then slice_get es k else None)
found_alike true n k es below = get_take n k es (below refl)
found_alike false n k es below = refl

pub keep_entries : ReshapedTablesKeepEntries
keep_entries form g i inside =
    found_alike (nat_le 1 i) form.entries (i - 1) (entries_in g) (λ above. let some = leb-true 1 i above in omega (arith, inside, some))

-- ---- a table that has the shape

form_sector : (side : CopyPlace) (h : GPTHeader) → IsHeaderForm side h → h.partition_entry_lba ≡ entries_sector side h.last_usable_lba
form_sector primary h form = form.1
form_sector backup h form = form.1

module _ (shape : Shape) (g : GPT) (has : HasShape shape g) where
  none_new : padded shape.entries (entries_in g) ≡ entries_in g
  none_new =
      let none : shape.entries - length (entries_in g) ≡ 0 = omega (arith, has.entries) in
      ap (λ (n : ℕ). entries_in g ++ replicate n empty_entry) none ∙ append-nil (entries_in g)

  wide_same : widened shape g ≡ g
  wide_same = λ i. record g {
    header = record g.header { first_usable_lba = sym has.first i; last_usable_lba = sym has.last i };
    partitions = none_new i;
  }

  cut_same : (len : ℕ) → HasLayout g len → cut shape g ≡ g
  cut_same len layout =
      let there : entries_sector (copy_place_of g.header) shape.last_usable ≡ g.header.partition_entry_lba =
      ap (entries_sector (copy_place_of g.header)) (sym has.last) ∙ sym (form_sector (copy_place_of g.header) g.header (form_at g len layout)) in
      let whole : take shape.entries (entries_in g) ≡ entries_in g = take_all shape.entries (entries_in g) (omega (arith, has.entries)) in
      λ i. record g {
        header = record g.header { number_of_partition_entries = sym has.count i; partition_entry_lba = there i };
        partitions = whole i;
      }

shape_still : (form : Shape) (g mid : GPT) → HasShape form g → KeepsRanges g mid → HasShape form mid
shape_still form g mid has keeps = record {
  count = ap (λ (h : GPTHeader). h.number_of_partition_entries) keeps.header ∙ has.count;
  entries = keeps.long ∙ has.entries;
  first = ap (λ (h : GPTHeader). h.first_usable_lba) keeps.header ∙ has.first;
  last = ap (λ (h : GPTHeader). h.last_usable_lba) keeps.header ∙ has.last;
}

pub reshaped_add_nothing : ReshapedRequestsAddNothing
reshaped_add_nothing reshaped len g next has is =
    let job = reshaped.request.job in
    let randoms : List (List ℕ) = reshaped.request.random.items in
    let done = subst (λ (m : GPT). IsDone job randoms m is.mid) (wide_same reshaped.shape g has) is.done in
    let mid_has = shape_still reshaped.shape g is.mid has (done_keeps job randoms g is.mid done) in
    let same : next ≡ is.mid = is.next_is ∙ cut_same reshaped.shape is.mid mid_has len (done_layout job randoms g is.mid len done is.layout) in
    record { layout = is.layout; done = subst (IsDone job randoms g) (sym same) done; may = is.may }

-- ---- a shape of which nothing is stated

eq_self : (n : ℕ) → nat_eq n n ≡ true
eq_self n = eq-eqb n n refl

first_same : (is old : ℕ) → kept_first is old old ≡ is
first_same is old = ap (λ (b : Bool). if b then is else if nat_eq is (2 + old) then 2 + old else max is (2 + old)) (eq_self old)

last_same : (is last old : ℕ) → kept_last is last old old ≡ is
last_same is last old = ap (λ (b : Bool). if b then is else if nat_eq is (last - old - 1) then last - old - 1 else min is (last - old - 1)) (eq_self old)

pub nothing_kept : NothingStatedIsKept
nothing_kept g stated none no_first no_last long =
    let h = g.header in
    let sectors : ℕ → ℕ = λ n. sectors_of_entries n g.sector_size in
    let old : ℕ = sectors h.number_of_partition_entries in
    let count : unwrap_or stated.entries h.number_of_partition_entries ≡ h.number_of_partition_entries = ap (λ (o : Option ℕ). unwrap_or o h.number_of_partition_entries) none in
    let new : ℕ = sectors (unwrap_or stated.entries h.number_of_partition_entries) in
    let first : unwrap_or stated.first_usable (kept_first h.first_usable_lba old new) ≡ h.first_usable_lba =
    ap (λ (o : Option ℕ). unwrap_or o (kept_first h.first_usable_lba old new)) no_first ∙ ap (λ (n : ℕ). kept_first h.first_usable_lba old (sectors n)) count ∙ first_same h.first_usable_lba old in
    let end : ℕ = last_sector_of g in
    let last : unwrap_or stated.last_usable (kept_last h.last_usable_lba end old new) ≡ h.last_usable_lba =
    ap (λ (o : Option ℕ). unwrap_or o (kept_last h.last_usable_lba end old new)) no_last ∙ ap (λ (n : ℕ). kept_last h.last_usable_lba end old (sectors n)) count ∙ last_same h.last_usable_lba end old in
    record { count = sym count; entries = long ∙ sym count; first = sym first; last = sym last }

-- ---- refusals

-- The usable sectors are not between the copies of the empty table.
pub stop_bounds : (reshaped : ReshapedRequest) (len : ℕ) (g empty : GPT) → HasLayout g len → HasRoomAt reshaped.shape g len → empty ≡ blank_of reshaped.shape g len → (s : Stop)
    → IsStopOf (λ r. (¬ AreBounds empty.header.first_usable_lba empty.header.last_usable_lba reshaped.shape.first_usable reshaped.shape.last_usable) × (r ≡ OutOfBounds (usable_of empty))) s
    → IsStopOf (RefusesReshaped reshaped len g) s
stop_bounds reshaped len g empty layout room is (Refused r) refused =
    let form : Shape = reshaped.shape in
    let there = subst (λ (m : GPT). (¬ AreBounds m.header.first_usable_lba m.header.last_usable_lba form.first_usable form.last_usable) × (r ≡ OutOfBounds (usable_of m))) is refused in
    out_of_bounds layout room there.0 there.1
stop_bounds reshaped len g empty layout room is (Failed e) refused = refused

module _ (reshaped : ReshapedRequest) (len : ℕ) (g : GPT) (layout : HasLayout g len) (room : HasRoomAt reshaped.shape g len) (bounds : HasBoundsAt reshaped.shape g len) where
  -- The job is refused.
  pub stop_done : (s : Stop) → IsStopOf (RefusesJob reshaped.request.job reshaped.request.random.items (widened reshaped.shape g)) s → IsStopOf (RefusesReshaped reshaped len g) s
  stop_done (Refused r) refused = not_done layout room bounds refused
  stop_done (Failed e) refused = refused

  module _ (mid : GPT) (done : IsDoneAt reshaped g mid) where
    -- An entry that the new table does not have is used.
    pub stop_cut : (s : Stop) → IsStopOf (λ r. (i : ℕ) × (lowest_above reshaped.shape.entries mid ≡ Some i) × (r ≡ NoEntry i)) s → IsStopOf (RefusesReshaped reshaped len g) s
    stop_cut (Refused r) (i, found, is) = above mid i layout room bounds done found is
    stop_cut (Failed e) refused = refused

    module _ (next : GPT) (spare : lowest_above reshaped.shape.entries mid ≡ None) (is : next ≡ cut reshaped.shape mid) where
      pub next_layout : HasLayout next len
      next_layout = subst (λ (m : GPT). HasLayout m len) (sym is) (cut_layout reshaped len g mid layout room bounds done)

      -- The new table may not be written.
      pub stop_check : (s : Stop) → IsStopOf (RefusesCheck next) s → IsStopOf (RefusesReshaped reshaped len g) s
      stop_check (Refused r) refused = not_written mid layout room bounds done spare (subst (λ (m : GPT). RefusesCheck m r) is refused)
      stop_check (Failed e) refused = refused

      -- No order of writes is safe.
      pub stop_order : MayBeWritten next len → (¬ HasOrder reshaped.may_lose g next len) → RefusesReshaped reshaped len g NoSafeOrder
      stop_order may none =
          no_order mid layout room bounds done spare (subst (λ (m : GPT). MayBeWritten m len) is may)
          (λ order. none (subst (λ (m : GPT). HasOrder reshaped.may_lose g m len) (sym is) order)) refl

      pub is_reshaped : MayBeWritten next len → HasOrder reshaped.may_lose g next len → IsReshaped reshaped len g next
      is_reshaped may order = record {
        layout = layout;
        room = room;
        bounds = bounds;
        mid = mid;
        done = done;
        spare = spare;
        next_is = is;
        may = may;
        order = order;
      }
