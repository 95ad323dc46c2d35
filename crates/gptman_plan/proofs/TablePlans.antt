-- The plan of a write of a given table.
use Rattle.std.proofs.Common.{◌≡◌, ◌⊎◌, ⊎_elim, inr, ℕ, List, [], ◌∷◌, length, refl, sym, ap, ◌∙◌, subst}
use Rattle.gptman.specs.Crash.{StartsLaidOut, StartsSynced, StopsComeInOrder, StopsKeepOthers, other_place}
use Rattle.gptman.specs.Disk.{AgreesOutside, DiskState, IsHonest}
use Rattle.gptman.specs.Layout.{HasLayout, Holds, copy_ranges_at}
use Rattle.gptman.specs.Ranges.{AreInside}
use Rattle.gptman.specs.Reading.{CopyPlace, primary, backup}
use Rattle.gptman.specs.Stop.{IsStored}
use Rattle.gptman.specs.Table.{Table, new_table_of, table_in, IsHeaderForm}
use Rattle.gptman.specs.TableWrites.{RefusesTable}
use Rattle.gptman.specs.declared.table.GPT.{GPT}
use Rattle.gptman.proofs.Apart.{agrees_in}
use Rattle.gptman.proofs.Held.{holds_local}
use Rattle.gptman.proofs.Ranges.{Ranges, contains_first, contains_later}
use Rattle.gptman_plan.specs.Crossing.{four_ranges}
use Rattle.gptman_plan.specs.Ends.{AreRangesKnown, HaveRanges, IsDiskOf, length-zeroed, zeroed}
use Rattle.gptman_plan.specs.Plan.{Act, LeftBy, plan_state}
use Rattle.gptman_plan.specs.Planning.{Cause, ComesInOrder, IsNewPlan, IsReplaced, IsTablePlan, IsWrittenPlan, StopsNew, StopsTable}
use Rattle.gptman_plan.specs.Planning.Cause.{bad_argument, a_fault, other_length, other_layout}
use Rattle.gptman_plan.proofs.AnyMiddle.{after_any, order_any, others_any}
use Rattle.gptman_plan.proofs.KnownActs.{are_known}
use Rattle.gptman_plan.proofs.Middle.{AreKnown}
use Rattle.gptman_plan.proofs.Planned.{IsAfter}
use Rattle.gptman_plan.specs.declared.ends.Ends.{Ends}

-- ---- the effect of the write on the recording disk

module _ (start : List ℕ) (size : ℕ) (g : GPT) (acts : List Act) (old new : DiskState) (long : length start ≡ size) (begins : old ≡ plan_state start [] size 0 0) (after : IsAfter start acts new)
    (layout : HasLayout g size) where
  honest : IsHonest old
  honest = subst (λ (d : DiskState). IsHonest d) (sym begins) refl

  synced : old.pending ≡ []
  synced = ap (λ (d : DiskState). d.pending) begins

  view : old.view ≡ start
  view = ap (λ (d : DiskState). d.view) begins

  sized : old.size ≡ size
  sized = ap (λ (d : DiskState). d.size) begins

  laid : StartsLaidOut old g
  laid = record { honest = honest; layout = subst (λ (n : ℕ). HasLayout g n) (sym sized) layout }

  left : (x : List ℕ) → LeftBy start acts x → new.left_since old.clock x
  left x was = subst (λ (t : ℕ). new.left_since t x) (sym (ap (λ (d : DiskState). d.clock) begins)) (after.left x was)

  pub written_zero : (StartsSynced old g → StopsKeepOthers old new g) → (StartsLaidOut old g → IsStored new g.sector_size (table_in g)) → IsWrittenPlan start g.sector_size (table_in g) acts
  written_zero outside stored =
      let done = stored laid in
      record {
        others = λ x was.
            subst (λ (b : List ℕ). AgreesOutside (four_ranges (table_in g) g.sector_size (length start)) b x) view
            (subst (λ (n : ℕ). AgreesOutside (four_ranges (table_in g) g.sector_size n) old.view x) (sized ∙ sym long)
            (outside (record { start = laid; synced = synced }) x (left x was)));
        synced = sym after.pending ∙ done.synced;
        at_primary = subst (λ (v : List ℕ). Holds v g.sector_size primary (table_in g)) after.view done.at_primary;
        at_backup = subst (λ (v : List ℕ). Holds v g.sector_size backup (table_in g)) after.view done.at_backup;
      }

  pub order_zero : (side : CopyPlace) → IsHeaderForm side g.header → (StartsSynced old g → StopsComeInOrder old new g) → ComesInOrder side start g.sector_size (table_in g) acts
  order_zero side form order = λ x was.
      subst (λ (b : List ℕ). AgreesOutside (copy_ranges_at (other_place side) (table_in g) g.sector_size (length start)) b x ⊎ Holds x g.sector_size (other_place side) (table_in g)) view
      (subst (λ (n : ℕ). AgreesOutside (copy_ranges_at (other_place side) (table_in g) g.sector_size n) old.view x ⊎ Holds x g.sector_size (other_place side) (table_in g)) (sized ∙ sym long)
      (order (record { start = laid; synced = synced }) side form x (left x was)))

-- ---- and on every disk with these ends

-- the two ranges at a place are known if all four are
at_side : (first last size ss : ℕ) (t : Table) (side : CopyPlace) → AreRangesKnown first last size (four_ranges t ss size) → AreRangesKnown first last size (copy_ranges_at side t ss size)
at_side first last size ss t primary known = (known.0, (known.1.0, tt))
at_side first last size ss t backup known = (known.1.1.0, (known.1.1.1.0, tt))

module _ (e : Ends) (g : GPT) (acts : List Act)
    (places : AreInside (four_ranges (table_in g) g.sector_size e.size) e.size → HaveRanges e (four_ranges (table_in g) g.sector_size e.size))
    (written : HasLayout g e.size → IsWrittenPlan (zeroed e) g.sector_size (table_in g) acts)
    (order : HasLayout g e.size → (side : CopyPlace) → IsHeaderForm side g.header → ComesInOrder side (zeroed e) g.sector_size (table_in g) acts)
    (layout : HasLayout g e.size) (b : List ℕ) (ends : IsDiskOf e b) where
  abbrev zero : List ℕ
  zero = zeroed e

  all : length zero ≡ e.size
  all = length-zeroed e

  here : HasLayout g (length b)
  here = subst (λ (n : ℕ). HasLayout g n) (sym ends.long) layout

  four : HaveRanges e (four_ranges (table_in g) g.sector_size e.size)
  four = places layout.table.inside

  others : (y : List ℕ) → LeftBy zero acts y → AgreesOutside (four_ranges (table_in g) g.sector_size e.size) zero y
  others y left = subst (λ (n : ℕ). AgreesOutside (four_ranges (table_in g) g.sector_size n) zero y) all ((written layout).others y left)

  -- the acts leave all bytes outside the four ranges unchanged
  known : AreKnown (length e.head.now) (length e.tail.now) e.size acts
  known = are_known (length e.head.now) (length e.tail.now) e.size e.apart zero all (four_ranges (table_in g) g.sector_size e.size) four acts others

  written_any : IsWrittenPlan b g.sector_size (table_in g) acts
  written_any =
      let plan = written layout in
      record {
        others = λ x left.
            subst (λ (n : ℕ). AgreesOutside (four_ranges (table_in g) g.sector_size n) b x) (sym ends.long)
            (others_any e.head.now e.tail.now b e.size e.apart ends acts known (four_ranges (table_in g) g.sector_size e.size) others x left);
        synced = plan.synced;
        at_primary = after_any e.head.now e.tail.now b e.size e.apart ends acts known g.sector_size primary (table_in g) (at_side (length e.head.now) (length e.tail.now) e.size g.sector_size (table_in g) primary four) plan.at_primary;
        at_backup = after_any e.head.now e.tail.now b e.size e.apart ends acts known g.sector_size backup (table_in g) (at_side (length e.head.now) (length e.tail.now) e.size g.sector_size (table_in g) backup four) plan.at_backup;
      }

  -- the ranges of the copy at the other side
  abbrev other : CopyPlace → ℕ → Ranges
  other side n = copy_ranges_at (other_place side) (table_in g) g.sector_size n

  order_here : (side : CopyPlace) → IsHeaderForm side g.header → ComesInOrder side b g.sector_size (table_in g) acts
  order_here side form = subst (λ (n : ℕ). (x : List ℕ) → LeftBy b acts x → AgreesOutside (other side n) b x ⊎ Holds x g.sector_size (other_place side) (table_in g)) (sym ends.long)
      (order_any e.head.now e.tail.now b e.size e.apart ends acts known (other side e.size) g.sector_size (other_place side) (table_in g) (at_side (length e.head.now) (length e.tail.now) e.size g.sector_size (table_in g) (other_place side) four)
      (subst (λ (n : ℕ). (y : List ℕ) → LeftBy zero acts y → AgreesOutside (other side n) zero y ⊎ Holds y g.sector_size (other_place side) (table_in g)) all (order layout side form)))

  -- one of the two places holds one of the two tables
  replaced_any : (side : CopyPlace) → IsHeaderForm side g.header → (was : Table) → IsReplaced side b g.sector_size was (table_in g) acts
  replaced_any side form was held clear x left = ⊎_elim
      (λ few. record {
        side = side;
        table = was;
        listed = contains_first was (table_in g ∷ []);
        holds = holds_local b x g.sector_size side was held (agrees_in (copy_ranges_at side was g.sector_size (length b)) (other side (length b)) b x clear few);
      })
      (λ new. record { side = other_place side; table = table_in g; listed = contains_later (table_in g) was (table_in g ∷ []) (contains_first (table_in g) []); holds = new })
      (order_here side form x left)

  pub table_any : IsTablePlan b g acts
  table_any = record { layout = here; written = written_any; replaced = replaced_any }

-- a new table has a primary header
pub new_plan : (b : List ℕ) (g : GPT) (acts : List Act) → IsHeaderForm primary g.header → IsTablePlan b g acts → IsNewPlan b g acts
new_plan b g acts form plan = record { layout = plan.layout; written = plan.written; replaced = plan.replaced primary form }

-- why the table is not written is why the new table is not
pub table_stops_new : (count : ℕ) (guid : List ℕ) (ss size : ℕ) (g : GPT) → g ≡ new_table_of count guid ss size → (cause : Cause) → StopsTable g size cause → StopsNew count guid ss size cause
table_stops_new count guid ss size g is bad_argument none = absurd none
table_stops_new count guid ss size g is (a_fault fault) why = inr (subst (λ (t : GPT). RefusesTable t size fault) is why)
table_stops_new count guid ss size g is other_length none = none
table_stops_new count guid ss size g is other_layout not = subst (λ (t : GPT). ¬ HasLayout t size) is not
