-- A layout changes only what it names or removes, and a table that may only become it keeps the starts of its entries.
use Rattle.std.proofs.Common.{◌≡◌, ◌≢◌, ◌≤◌, ◌⊎◌, inl, inr, ℕ, ◌+◌, ◌-◌, List, [], ◌∷◌, refl, sym, ap, ◌∙◌, subst, arith, IsTrue, Bool, true, false}
use Rattle.std.specs.Prelude.{◌&&◌, Option, Some, None, Ok, All, nat_eq, nat_le, not, if◌then◌else◌}
use Rattle.std.proofs.lemmas.Bool.{eqb-true, leb-true}
use Rattle.gptman.specs.Entry.{is_unused, is_used}
use Rattle.gptman.specs.Number.{entry_at, with_entry, IsNumber}
use Rattle.gptman.specs.declared.codec.entry.GPTPartitionEntry.{GPTPartitionEntry}
use Rattle.gptman.specs.declared.table.GPT.{GPT}
use Rattle.gptedit_core.specs.Applying.{IsApplied}
use Rattle.gptedit_core.specs.Named.{AreThere, IsUnnamed, KeepsStart, LayoutsChangeNamed, StaysAs}
use Rattle.gptedit_core.specs.Placing.{IsSpan}
use Rattle.gptedit_core.specs.Resolving.{place_asked, place_of, resolved, resolved_all, room_asked, start_asked, stay_fault, there_of, used_at}
use Rattle.gptedit_core.specs.Sectors.{between}
use Rattle.gptedit_core.specs.declared.asked.Asked.{Asked}
use Rattle.gptedit_core.specs.declared.asked.Mode.{Mode}
use Rattle.gptedit_core.specs.declared.asked.Mode.TheVariants.{Become}
use Rattle.gptedit_core.specs.declared.asked.RequestedLayout.{RequestedLayout}
use Rattle.gptedit_core.specs.declared.place.Place.{Place}
use Rattle.gptedit_core.specs.declared.place.Place.TheVariants.{At, From, Free, Longest}
use Rattle.gptedit_core.specs.declared.refusal.Refusal.{Refusal}
use Rattle.gptedit_core.specs.declared.refusal.Refusal.TheVariants.{WouldMove}
use Rattle.gptedit_core.specs.declared.resolve.ResolvedPartition.{ResolvedPartition}
use Rattle.gptedit_core.specs.declared.sectors.SectorRange.{SectorRange}
use Rattle.gptedit_core.proofs.Again.{named_or, place_first}
use Rattle.gptedit_core.proofs.Requested.{unless_ok}
use Rattle.gptedit_core.proofs.Dumped.{at_number, of_number, used_is, HasNumber}
use Rattle.gptedit_core.proofs.Extended.{both_true}
use Rattle.gptedit_core.proofs.Placed.{last_end, last_exact, last_longer, other_stays, placed_there}
use Rattle.gptedit_core.proofs.Steps.{and_then_ok}

-- ---- the place of a used entry

when_none : (b : Bool) (r : Refusal) → ◌≡◌ {A = Option Refusal} (if b then None else Some r) None → b ≡ true
when_none true r is = refl
when_none false r is = absurd (cc)

-- The place starts where the entry does, and ends no earlier.
record IsNoLess (e : GPTPartitionEntry) (place : Place) : Type 0 where
  last : ℕ
  at : place ≡ At e.starting_lba last
  kept : e.ending_lba ≤ last

no_less_by : (i : ℕ) (e : GPTPartitionEntry) (place : Place) → stay_fault (Become false) i (there_of (Some e)) place ≡ None → IsNoLess e place
no_less_by i e (At first last) is =
    let both = both_true (nat_eq first e.starting_lba) (nat_le e.ending_lba last) (when_none (nat_eq first e.starting_lba && nat_le e.ending_lba last) (WouldMove i) is) in
    record { last = last; at = ap (λ n. At n last) (eqb-true first e.starting_lba both.0); kept = leb-true e.ending_lba last both.1 }
no_less_by i e (From first) is = absurd (cc)
no_less_by i e (Free size choice) is = absurd (cc)
no_less_by i e Longest is = absurd (cc)

no_less : (a : Asked) (i ss : ℕ) (e : GPTPartitionEntry) (place : Place) → place_asked (Become false) a i (Some e) ss ≡ Ok place → IsNoLess e place
no_less a i ss e place is =
    let start = and_then_ok (start_asked a.start ss) _ place is in
    let room = and_then_ok (room_asked a.size i ss) _ place start.2 in
    let at = and_then_ok (place_of i room.0 start.0 (there_of (Some e)) a.choice) _ place room.2 in
    let stay = unless_ok (stay_fault (Become false) i (there_of (Some e)) at.0) at.0 place at.2 in
    subst (IsNoLess e) stay.1 (no_less_by i e at.0 stay.0)

-- ---- all partitions

abbrev AreNoLess : GPT → List ResolvedPartition → Type 0
AreNoLess g [] = Unit {0}
AreNoLess g (p ∷ ps) = ((e : GPTPartitionEntry) → used_at g p.number ≡ Some e → IsNoLess e p.place) × AreNoLess g ps

all_no_less : (g : GPT) (asked : List Asked) (randoms : List (List ℕ)) (ps : List ResolvedPartition) → resolved_all g (Become false) asked randoms ≡ Ok ps → AreNoLess g ps
all_no_less g [] randoms ps all = let none : [] ≡ ps = cc in subst (AreNoLess g) none tt
all_no_less g (a ∷ asked) [] ps all = let none : [] ≡ ps = cc in subst (AreNoLess g) none tt
all_no_less g (a ∷ asked) (random ∷ randoms) ps all =
    let p = and_then_ok (resolved g (Become false) a random) _ ps all in
    let rest = and_then_ok (resolved_all g (Become false) asked randoms) _ ps p.2 in
    let whole : p.0 ∷ rest.0 ≡ ps = cc in
    let place = place_first g (Become false) a random p.0 p.1 in
    subst (AreNoLess g) whole (
      λ e used. no_less a p.0.number g.sector_size e p.0.place (subst (λ (u : Option GPTPartitionEntry). place_asked (Become false) a p.0.number u g.sector_size ≡ Ok p.0.place) used place),
      all_no_less g asked randoms rest.0 rest.1,
    )

no_less_there : (g t next : GPT) (j : ℕ) (ps : List ResolvedPartition) (e : GPTPartitionEntry) → AreNoLess g ps → AreThere ps t next → HasNumber j ps → used_at g j ≡ Some e
    → KeepsStart e (entry_at next j)
no_less_there g t next j [] e all there has used = absurd has
no_less_there g t next j (p ∷ ps) e all there (inr has) used = no_less_there g (with_entry t p.number (entry_at next p.number)) next j ps e all.1 there.1 has used
no_less_there g t next j (p ∷ ps) e all there (inl same) used =
    let is = all.0 e (subst (λ (n : ℕ). used_at g n ≡ Some e) (sym same) used) in
    let put = there.0 in
    let span : put.range ≡ between e.starting_lba is.last = subst (λ (place : Place). IsSpan place t put.range) is.at put.span in
    let first : put.range.first ≡ e.starting_lba = ap (λ (s : SectorRange). s.first) span in
    let last : put.range.last ≡ is.last = ap (λ (s : SectorRange). s.last) span in
    let end : (entry_at next p.number).ending_lba ≡ is.last = ap (λ (x : GPTPartitionEntry). x.ending_lba) put.entry ∙ last in
    subst (λ (n : ℕ). KeepsStart e (entry_at next n)) same
    (record { start = ap (λ (x : GPTPartitionEntry). x.starting_lba) put.entry ∙ first; end = omega (arith, end, is.kept) })

-- ---- the whole layout

pub not_both : (b : Bool) → IsTrue b → ¬ IsTrue (not b)
not_both true is other = absurd (cc)
not_both false is other = absurd (cc)

module _ (layout : RequestedLayout) (randoms : List (List ℕ)) (g next : GPT) (is : IsApplied layout randoms g next) (mode : layout.mode ≡ Become false)
    (i : ℕ) (number : IsNumber g i) (used : IsTrue (is_used (entry_at g i))) where
  is_there : used_at g i ≡ Some (entry_at g i)
  is_there =
      let index : i ≡ i - 1 + 1 = omega (arith, number.0) in
      let found = of_number g (i - 1) i index (omega (arith, number.0, number.1)) ∙ ap Some (sym (at_number g (i - 1) i index)) in
      used_is g i (entry_at g i) found used

  start_by : (HasNumber i is.partitions ⊎ IsUnnamed i is.partitions) → All (λ j. j ≢ i) layout.removed.items → KeepsStart (entry_at g i) (entry_at next i)
  start_by (inl has) kept =
      let asked = subst (λ (m : Mode). resolved_all g m layout.asked.items randoms ≡ Ok is.partitions) mode is.asked in
      let all = all_no_less g layout.asked.items randoms is.partitions asked in
      let put = no_less_there g is.free is.placed i is.partitions (entry_at g i) all (placed_there layout randoms g next is) has is_there in
      let only = last_end layout randoms g next is i number.0 in
      record { start = ap (λ (x : GPTPartitionEntry). x.starting_lba) only.same ∙ put.start; end = omega (arith, put.end, only.kept) }
  start_by (inr unnamed) kept =
      let stays = subst (λ (m : Mode). StaysAs m (entry_at g i) (entry_at next i)) mode (other_stays layout randoms g next is i number.0 unnamed kept) in
      absurd (not_both (is_unused (entry_at g i)) stays.1 used)

pub change_named : LayoutsChangeNamed
change_named layout randoms g next is = record {
  others = λ i low unnamed kept. other_stays layout randoms g next is i low unnamed kept;
  named = placed_there layout randoms g next is;
  starts = λ mode i number kept used. start_by layout randoms g next is mode i number used (named_or i is.partitions) kept;
  exact = λ i low other. last_exact layout randoms g next is i low other;
  fields = λ i low. (last_end layout randoms g next is i low).same;
  longer = λ i number among. last_longer layout randoms g next is i number among;
}
