-- A new table has the stated layout, whatever its bounds and partitions.
use Rattle.std.proofs.Common.{◌≡◌, ⊎_elim, inl, inr, refl, sym, ap, ◌∙◌, subst, ℕ, ◌+◌, ◌-◌, ◌*◌, ◌/◌, ◌≤◌, ◌<◌, ◌^◌, ◌||◌, Bool, true, false, not, List, ◌++◌, arith}
use Rattle.std.specs.Prelude.{if◌then◌else◌, nat_eq, nat_lt, Option, Some, None}
use Rattle.std.proofs.Math.Nat.{add-mul, mul-le-mul_right}
use Rattle.std.proofs.lemmas.Bool.{lt-ltb, ltb-false}
use Rattle.std.proofs.lemmas.Grind.{div_ceil_times}
use Rattle.std.proofs.lemmas.List.{length-replicate}
use Rattle.gptman.specs.Coding.{empty_entry}
use Rattle.gptman.specs.Copy.{IsCoherent}
use Rattle.gptman.specs.Fault.{Fault, overflow}
use Rattle.gptman.specs.Fit.{array_sectors, array_size, is_too_small, new_header_of}
use Rattle.gptman.specs.Layout.{HasLayout, copy_ranges_at}
use Rattle.gptman.specs.Ranges.{AreApart, AreInside}
use Rattle.gptman.specs.Reading.{primary, backup}
use Rattle.gptman.specs.Table.{entries_in, new_table_of, table_in, IsHeaderForm}
use Rattle.gptman.specs.TableWrites.{MayBeWritten}
use Rattle.gptman.specs.Write.{has_other_header}
use Rattle.gptman.specs.declared.table.GPT.{GPT}
use Rattle.gptman.proofs.Commits.{coherent_still, form_still, layout_still, KeepsRanges}
use Rattle.gptedit_core.specs.Applying.{IsStopOf}
use Rattle.gptedit_core.specs.Making.{bounded, empty_of, first_asked, last_asked, with_bounds, AreBounds, HasBounds, HasRoomFor, HasRoomOf, IsAppliedIf, IsNew, RefusesNew}
use Rattle.gptedit_core.specs.Making.RefusesNew.{not_valid}
use Rattle.gptedit_core.specs.Planning.{RefusesCheck}
use Rattle.gptedit_core.specs.declared.asked.RequestedLayout.{RequestedLayout}
use Rattle.gptedit_core.specs.declared.making.Creation.{Creation}
use Rattle.gptedit_core.specs.declared.plan.Job.TheVariants.{Apply}
use Rattle.gptedit_core.specs.declared.refusal.Stop.{Stop}
use Rattle.gptedit_core.specs.declared.refusal.Stop.TheVariants.{Refused, Failed}
use Rattle.gptedit_core.proofs.Kept.{done_keeps}

-- ---- sums of sectors

-- The primary copy ends before the sector after the last usable one.
before : (ss n a first last : ℕ) → n ≤ a * ss → 2 + a ≤ first → first ≤ last + 1 → 2 * ss + n ≤ (last + 1) * ss
before ss n a first last takes low ordered =
    let order : 2 + a ≤ last + 1 = omega (arith, low, ordered) in
    let up : (2 + a) * ss ≤ (last + 1) * ss = mul-le-mul_right ss order in
    let sum : (2 + a) * ss ≡ 2 * ss + a * ss = add-mul 2 a ss in
    omega (arith, takes, up, sum)

-- The backup entries end before the last sector.
behind : (ss n a last sectors : ℕ) → n ≤ a * ss → last + a + 2 ≤ sectors → (last + 1) * ss + n ≤ (sectors - 1) * ss
behind ss n a last sectors takes high =
    let order : last + 1 + a ≤ sectors - 1 = omega (arith, high) in
    let up : (last + 1 + a) * ss ≤ (sectors - 1) * ss = mul-le-mul_right ss order in
    let sum : (last + 1 + a) * ss ≡ (last + 1) * ss + a * ss = add-mul (last + 1) a ss in
    omega (arith, takes, up, sum)

header_before : (ss a first last : ℕ) → 92 ≤ ss → 2 + a ≤ first → first ≤ last + 1 → ss + 92 ≤ (last + 1) * ss
header_before ss a first last sector low ordered =
    let order : 2 ≤ last + 1 = omega (arith, low, ordered) in
    let up : 2 * ss ≤ (last + 1) * ss = mul-le-mul_right ss order in
    omega (arith, sector, up)

lower : (ss n last high len : ℕ) → last ≤ high → (high + 1) * ss + n ≤ len → (last + 1) * ss + n ≤ len
lower ss n last high len below inside =
    let order : last + 1 ≤ high + 1 = omega (arith, below) in
    let up : (last + 1) * ss ≤ (high + 1) * ss = mul-le-mul_right ss order in
    omega (arith, inside, up)

high_from : (last a sectors : ℕ) → last ≤ sectors - a - 2 → a + 2 ≤ sectors → last + a + 2 ≤ sectors
high_from last a sectors below few = omega (arith, below, few)

takes_from : (count all : ℕ) → count * 128 ≤ all → 128 * count ≤ all
takes_from count all takes = omega (arith, takes)

fits_from : (last high : ℕ) → last ≤ high → high + 1 < 2 ^ 64 → last + 1 < 2 ^ 64
fits_from last high below fits = omega (arith, below, fits)

not_small : (a b : Bool) → ◌≡◌ {A = Option Fault} (if a || b then Some overflow else None) None → b ≡ false
not_small true b is = absurd (cc)
not_small false true is = absurd (cc)
not_small false false is = refl

-- ---- the empty table

module _ (count : ℕ) (guid : List ℕ) (ss len : ℕ) (room : HasRoomFor count guid ss len) where
  abbrev g : GPT
  g = new_table_of count guid ss len

  abbrev array : ℕ
  array = array_sectors (new_header_of count guid) ss

  abbrev bytes : ℕ
  bytes = 128 * count

  sector : 92 ≤ ss
  sector = room.layout.table.sector

  takes : bytes ≤ array * ss
  takes =
      let some : 0 < ss = omega (arith, sector) in
      takes_from count (array * ss) (div_ceil_times (count * 128) ss some).0

  few : array + 2 ≤ len / ss
  few = ltb-false (len / ss) (array + 2) (not_small (nat_eq (array_size (new_header_of count guid)) 0) (is_too_small (len / ss) array) room.fits)

  -- With valid bounds the empty table still has the layout.
  module _ (first last : ℕ) (bounds : AreBounds g.header.first_usable_lba g.header.last_usable_lba first last) where
    high : last + array + 2 ≤ len / ss
    high = high_from last array (len / ss) bounds.last_is few

    apart : AreApart (copy_ranges_at primary (table_in (with_bounds g first last)) ss len ++ copy_ranges_at backup (table_in (with_bounds g first last)) ss len)
    apart =
        let was = room.layout.table.apart in (
          (was.0.0, (was.0.1.0, (inr (inr (inl (header_before ss array first last sector bounds.first_is bounds.ordered))), tt))),
          (
            (was.1.0.0, (inr (inr (inl (before ss bytes array first last takes bounds.first_is bounds.ordered))), tt)),
            ((inr (inr (inr (behind ss bytes array last (len / ss) takes high))), tt), (tt, tt)),
          ),
        )

    inside : AreInside (copy_ranges_at primary (table_in (with_bounds g first last)) ss len ++ copy_ranges_at backup (table_in (with_bounds g first last)) ss len) len
    inside =
        let was = room.layout.table.inside in
        (was.0, (was.1.0, (was.1.1.0, (⊎_elim (λ none. inl none) (λ within. inr (lower ss bytes last g.header.last_usable_lba len bounds.last_is within)) was.1.1.1.0, tt))))

    pub bounded_layout : HasLayout (with_bounds g first last) len
    bounded_layout =
        let was = room.layout.table in
        record {
          table = record {
            sector = sector;
            signature = was.signature;
            revision = was.revision;
            header_size = was.header_size;
            entry_size = was.entry_size;
            entries = was.entries;
            low_sector = was.low_sector;
            high_sector = was.high_sector;
            inside = inside;
            apart = apart;
            fits = fits_from last g.header.last_usable_lba bounds.last_is was.fits;
          };
          side = primary;
          form = (refl, refl);
        }

    pub bounded_coherent : IsCoherent (with_bounds g first last).header (entries_in (with_bounds g first last))
    bounded_coherent = record {
      header_size = refl;
      count = length-replicate count empty_entry;
      entry_size = inl refl;
    }

-- ---- the layout is applied

no_change : (g next : GPT) → next ≡ g → KeepsRanges g next
no_change g next same = subst (KeepsRanges g) (sym same) (record { sector = refl; header = refl; long = refl })

applied_keeps : (layout : Option RequestedLayout) (randoms : List (List ℕ)) (g next : GPT) → IsAppliedIf layout randoms g next → KeepsRanges g next
applied_keeps None randoms g next is = no_change g next is
applied_keeps (Some layout) randoms g next is = done_keeps (Apply layout) randoms g next is

-- The new table has the stated layout,
pub applied_layout : (creation : Creation) (ss len : ℕ) (next : GPT) → HasRoomOf creation ss len → HasBounds creation (empty_of creation ss len)
    → IsAppliedIf creation.layout creation.random.items (bounded creation (empty_of creation ss len)) next → HasLayout next len
applied_layout creation ss len next room bounds applied =
    let g = empty_of creation ss len in
    layout_still (bounded creation g) next (applied_keeps creation.layout creation.random.items (bounded creation g) next applied) len
    (bounded_layout creation.entries creation.guid ss len room (first_asked creation g) (last_asked creation g) bounds)

module _ (creation : Creation) (ss len : ℕ) (next : GPT) (is : IsNew creation ss len next) where
  abbrev start : GPT
  start = bounded creation (empty_of creation ss len)

  keeps : KeepsRanges start next
  keeps = applied_keeps creation.layout creation.random.items start next is.filled.applied

  pub new_layout : HasLayout next len
  new_layout = applied_layout creation ss len next is.room is.filled.bounds is.filled.applied

  -- the same sector size,
  pub new_sector : next.sector_size ≡ ss
  new_sector = keeps.sector

  -- the primary form,
  pub new_form : IsHeaderForm primary next.header
  new_form = form_still start next keeps primary (refl, refl)

  -- and as many entries as its header counts.
  pub new_coherent : IsCoherent next.header (entries_in next)
  new_coherent =
      coherent_still start next keeps
      (bounded_coherent creation.entries creation.guid ss len is.room (first_asked creation (empty_of creation ss len)) (last_asked creation (empty_of creation ss len)) is.filled.bounds)

or_second : (a b : Bool) → b ≡ true → (a || b) ≡ true
or_second true b is = refl
or_second false b is = is

-- In the stated layout the header of the other copy exists.
pub layout_other : (g : GPT) (len : ℕ) → HasLayout g len → has_other_header g.header ≡ true
layout_other g len layout =
    or_second (not (nat_eq g.header.partition_entry_lba 2)) (nat_lt (g.header.last_usable_lba + 1) (2 ^ 64)) (lt-ltb (g.header.last_usable_lba + 1) (2 ^ 64) layout.table.fits)

-- ---- from the empty table to the new one

module _ (creation : Creation) (len : ℕ) (empty mid next : GPT) (is : empty ≡ empty_of creation empty.sector_size len) (room : HasRoomOf creation empty.sector_size len)
    (bounds : HasBounds creation empty) (value : mid ≡ bounded creation empty) (applied : IsAppliedIf creation.layout creation.random.items mid next) where
  bounds_there : HasBounds creation (empty_of creation empty.sector_size len)
  bounds_there = subst (HasBounds creation) is bounds

  applied_there : IsAppliedIf creation.layout creation.random.items (bounded creation (empty_of creation empty.sector_size len)) next
  applied_there = subst (λ (m : GPT). IsAppliedIf creation.layout creation.random.items m next) (value ∙ ap (bounded creation) is) applied

  pub filled_layout : HasLayout next len
  filled_layout = applied_layout creation empty.sector_size len next room bounds_there applied_there

  pub filled_new : MayBeWritten next len → IsNew creation empty.sector_size len next
  filled_new may = record { room = room; filled = record { bounds = bounds_there; applied = applied_there; may = may } }

  pub filled_refused : (s : Stop) → IsStopOf (RefusesCheck next) s → IsStopOf (RefusesNew creation empty.sector_size len) s
  filled_refused (Refused r) refused = not_valid next room bounds_there applied_there refused
  filled_refused (Failed e) refused = refused
