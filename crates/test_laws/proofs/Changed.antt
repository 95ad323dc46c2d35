-- A layout that changes one used entry.
use Prim.Native.Nat.{◌∣◌}
use Rattle.std.proofs.Common.{◌≡◌, ◌≢◌, ◌≤◌, ◌<◌, ◌⊎◌, inl, inr, ℕ, ◌+◌, ◌-◌, List, [], ◌∷◌, refl, sym, ap, ◌∙◌, subst, arith, suc, IsTrue, Bool, true, false, length}
use Rattle.std.specs.Prelude.{Option, Some, None, Result, Ok, Err, All, Contains, nat_eq, nat_le, ◌&&◌, if◌then◌else◌}
use Rattle.std.proofs.lemmas.Bool.{eqb-true, eqb-false, leb-true}
use Rattle.std.proofs.lemmas.List.{get_or_default, length-set}
use Rattle.gptman.specs.Coding.{empty_entry}
use Rattle.gptman.specs.Entry.{covers, is_unused, is_used}
use Rattle.gptman.specs.Number.{entry_at, entry_of_number, with_entry}
use Rattle.gptman.specs.Place.{IsFreeIn, IsUsable}
use Rattle.gptman.specs.Table.{entries_in}
use Rattle.gptman.specs.declared.codec.entry.GPTPartitionEntry.{GPTPartitionEntry}
use Rattle.gptman.specs.declared.codec.header.GPTHeader.{GPTHeader}
use Rattle.gptman.specs.declared.codec.name.PartitionName.{PartitionName}
use Rattle.gptman.specs.declared.table.GPT.{GPT}
use Rattle.gptedit_core.specs.Applying.{align_asked, asks_rest, rest_numbers, IsApplied}
use Rattle.gptedit_core.specs.Named.{AreThere, IsAmong, IsLengthened, IsThere, IsUnnamed, LayoutsChangeNamed, LayoutsOnlyLengthen, StaysAs}
use Rattle.gptedit_core.specs.Placing.{AreFreeBehind, IsSpan}
use Rattle.gptedit_core.specs.Resolving.{and_then, entry_asked, nothing_of, number_asked, partition_at, place_asked, resolved, resolved_all, unless, use_fault, used_at}
use Rattle.gptedit_core.specs.Sectors.{between}
use Rattle.gptedit_core.specs.declared.amount.Amount.{Amount}
use Rattle.gptedit_core.specs.declared.amount.Amount.TheVariants.{Sectors}
use Rattle.gptedit_core.specs.declared.asked.Asked.{Asked}
use Rattle.gptedit_core.specs.declared.asked.RequestedLayout.{RequestedLayout}
use Rattle.gptedit_core.specs.declared.asked.Mode.{Mode}
use Rattle.gptedit_core.specs.declared.asked.Mode.TheVariants.{Change}
use Rattle.gptedit_core.specs.declared.asked.Size.TheVariants.{Rest}
use Rattle.gptedit_core.specs.declared.place.Place.{Place}
use Rattle.gptedit_core.specs.declared.place.Place.TheVariants.{At}
use Rattle.gptedit_core.specs.declared.refusal.Refusal.{Refusal}
use Rattle.gptedit_core.specs.declared.refusal.Refusal.TheVariants.{NoAlignment, NoType}
use Rattle.gptedit_core.specs.declared.resolve.ResolvedPartition.{ResolvedPartition}
use Rattle.gptedit_core.specs.declared.sectors.SectorRange.{SectorRange}
use Rattle.gptedit_core.proofs.Again.{given, of_by}
use Rattle.gptedit_core.proofs.Dumped.{at_number}
use Rattle.gptedit_core.proofs.Exact.{unnamed_more}
use Rattle.gptedit_core.proofs.Applied.{cleared_keep, removed_keep}
use Rattle.gptedit_core.proofs.Same.{cleared_same, removed_same}
use Rattle.gptedit_core.proofs.Steps.{and_then_ok, else_ok}
use Rattle.gptman.proofs.Ranges.{contains_first}
use Rattle.test_laws.specs.Changed.{with_name, IsChangeOf, OthersStay}

-- ---- the request

used_by : (used : Option GPTPartitionEntry) (i j : ℕ) → unless (use_fault Change i used) i ≡ Ok j → (e : GPTPartitionEntry) × (used ≡ Some e)
used_by None i j is = absurd (cc)
used_by (Some e) i j is = (e, refl)

if_found : (b : Bool) (x e : GPTPartitionEntry) → ◌≡◌ {A = Option GPTPartitionEntry} (if b then Some x else None) (Some e) → x ≡ e
if_found true x e is = cc
if_found false x e is = absurd (cc)

found_by : (o : Option GPTPartitionEntry) (e : GPTPartitionEntry)
    → ◌≡◌ {A = Option GPTPartitionEntry} (elim o [ None ↦ None | Some x ↦ if is_used x then Some x else None ]) (Some e) → o ≡ Some e
found_by None e is = absurd (cc)
found_by (Some x) e is = ap Some (if_found (is_used x) x e is)

-- The partition is the used entry of number i with the request applied.
record IsAsked (g : GPT) (a : Asked) (random : List ℕ) (i : ℕ) (p : ResolvedPartition) : Type 0 where
  number : p.number ≡ i
  low : 1 ≤ i
  entry : p.entry ≡ entry_asked a (Some (entry_at g i)) random
  place : place_asked Change a i (Some (entry_at g i)) g.sector_size ≡ Ok p.place

is_asked : (g : GPT) (a : Asked) (random : List ℕ) (i : ℕ) (p : ResolvedPartition) → a.number ≡ Some i → resolved g Change a random ≡ Ok p → IsAsked g a random i p
is_asked g a random i p number_is is =
    let number = and_then_ok (number_asked g a) (partition_at g Change a random) p is in
    let here = given g a i number.0 number_is number.1 in
    let part : partition_at g Change a random i ≡ Ok p = subst (λ (n : ℕ). partition_at g Change a random n ≡ Ok p) (sym here.0) number.2 in
    let used = used_at g i in
    let e : GPTPartitionEntry = entry_asked a used random in
    let last : Place → Result ResolvedPartition Refusal = λ place. if is_unused e then Err (NoType i) else Ok (record { number = i; entry = e; place = place }) in
    let use_of = and_then_ok (unless (use_fault Change i used) i) (λ (j : ℕ). and_then (place_asked Change a i used g.sector_size) last) p part in
    let place = and_then_ok (place_asked Change a i used g.sector_size) last p use_of.2 in
    let end = else_ok (is_unused e) (NoType i) (record { number = i; entry = e; place = place.0 }) p place.2 in
    let found = used_by used i use_of.0 use_of.1 in
    let there : entry_of_number g i ≡ Some found.0 = found_by (entry_of_number g i) found.0 found.1 in
    let at = of_by g i found.0 _ refl there in
    let used_is : used ≡ Some (entry_at g i) = found.1 ∙ ap Some (sym at.1) in
    record {
      number = sym (ap (λ (q : ResolvedPartition). q.number) end.1);
      low = at.0;
      entry = sym (ap (λ (q : ResolvedPartition). q.entry) end.1) ∙ ap (λ (u : Option GPTPartitionEntry). entry_asked a u random) used_is;
      place = subst (λ (x : Place). place_asked Change a i (Some (entry_at g i)) g.sector_size ≡ Ok x) (ap (λ (q : ResolvedPartition). q.place) end.1)
          (subst (λ (u : Option GPTPartitionEntry). place_asked Change a i u g.sector_size ≡ Ok place.0) used_is place.1);
    }

-- It is the only one.
record IsOnly (g : GPT) (a : Asked) (i : ℕ) (ps : List ResolvedPartition) : Type 0 where
  random : List ℕ
  p : ResolvedPartition
  asked : IsAsked g a random i p
  only : ps ≡ p ∷ []

is_only : (g : GPT) (a : Asked) (i : ℕ) (randoms : List (List ℕ)) (ps : List ResolvedPartition) → a.number ≡ Some i → 1 ≤ length randoms → resolved_all g Change (a ∷ []) randoms ≡ Ok ps → IsOnly g a i ps
is_only g a i [] ps number enough all = absurd (omega (arith, enough))
is_only g a i (random ∷ randoms) ps number enough all =
    let rest : ResolvedPartition → Result (List ResolvedPartition) Refusal = λ q. Ok (q ∷ []) in
    let p = and_then_ok (resolved g Change a random) rest ps all in
    let last : ◌≡◌ {A = Result (List ResolvedPartition) Refusal} (Ok (p.0 ∷ [])) (Ok ps) = p.2 in
    let whole : ps ≡ p.0 ∷ [] = cc in
    record { random = random; p = p.0; asked = is_asked g a random i p.0 number p.1; only = whole }

-- ---- the result, and the other entries

both_true : (a b : Bool) → IsTrue (a && b) → IsTrue b
both_true true b is = is
both_true false b is = absurd (cc)

-- It covers no sector after its last one.
not_covered : (x : ℕ) (e : GPTPartitionEntry) → e.ending_lba < x → ¬ IsTrue (covers x e)
not_covered x e behind = λ covered.
    let below : x ≤ e.ending_lba = leb-true x e.ending_lba (both_true (is_used e && nat_le e.starting_lba x) (nat_le x e.ending_lba) covered) in
    omega (arith, behind, below)

module _ (a : Asked) (align i : ℕ) (layout : RequestedLayout) (randoms : List (List ℕ)) (g next : GPT) (change : IsChangeOf a align layout) (number : a.number ≡ Some i)
    (enough : 1 ≤ length randoms) (is : IsApplied layout randoms g next) where
  one : IsOnly g a i is.partitions
  one =
      is_only g a i randoms is.partitions number enough
      (subst (λ (m : Mode). resolved_all g m (a ∷ []) randoms ≡ Ok is.partitions) change.mode
      (subst (λ (asked : List Asked). resolved_all g layout.mode asked randoms ≡ Ok is.partitions) change.asked is.asked))

  unnamed : (j : ℕ) → j ≢ i → IsUnnamed j is.partitions
  unnamed j other =
      subst (λ (ps : List ResolvedPartition). IsUnnamed j ps) (sym one.only)
      (unnamed_more j one.p [] (λ same. other (sym same ∙ one.asked.number)) (λ k d below. absurd (omega (arith, below))))

  kept : (j : ℕ) → All (λ (k : ℕ). k ≢ j) layout.removed.items
  kept j = subst (λ (js : List ℕ). All (λ (k : ℕ). k ≢ j) js) (sym change.removed) (λ k d below. absurd (omega (arith, below)))

  pub others_stay : LayoutsChangeNamed → OthersStay i g next
  others_stay law j low other =
      subst (λ (m : Mode). StaysAs m (entry_at g j) (entry_at next j)) change.mode ((law layout randoms g next is).others j low (unnamed j other) (kept j))

  -- It is at the requested place.
  there : LayoutsChangeNamed → IsThere one.p is.free is.placed
  there law = (subst (λ (ps : List ResolvedPartition). AreThere ps is.free is.placed) one.only (law layout randoms g next is).named).0

  -- and is not lengthened unless it gets the rest.
  not_longer : LayoutsChangeNamed → asks_rest a.size ≡ false → 1 ≤ i → entry_at next i ≡ entry_at is.placed i
  not_longer law none low =
      let asked : rest_numbers layout.asked.items is.partitions ≡ rest_numbers (a ∷ []) (one.p ∷ []) = λ k. rest_numbers (change.asked k) (one.only k) in
      let empty : rest_numbers (a ∷ []) (one.p ∷ []) ≡ [] = ap (λ (b : Bool). if b then one.p.number ∷ [] else []) none in
      (law layout randoms g next is).exact i low (subst (λ (numbers : List ℕ). ¬ IsAmong i numbers) (sym (asked ∙ empty)) (λ among. among))

  -- ---- the free sectors

  same_header : is.free.header ≡ g.header
  same_header =
      cleared_same (λ (m : GPT). m.header) (λ m j e. refl) is.partitions is.rest is.free is.clear
      ∙ removed_same (λ (m : GPT). m.header) (λ m j e. refl) layout.removed.items (record g { align = is.align }) is.rest is.removed

  same_length : length (entries_in is.free) ≡ length (entries_in g)
  same_length =
      cleared_same (λ (m : GPT). length (entries_in m)) (λ m j e. length-set (entries_in m) (j - 1) e) is.partitions is.rest is.free is.clear
      ∙ removed_same (λ (m : GPT). length (entries_in m)) (λ m j e. length-set (entries_in m) (j - 1) e) layout.removed.items (record g { align = is.align }) is.rest is.removed

  same_other : (j : ℕ) → 1 ≤ j → j ≢ i → entry_at is.free j ≡ entry_at g j
  same_other j low other =
      cleared_keep is.partitions is.rest is.free j is.clear low (unnamed j other)
      ∙ removed_keep layout.removed.items (record g { align = is.align }) is.rest j is.removed low (kept j)

  -- a sector after the entry that is free without it is free
  uncovered_by : (x k : ℕ) (b : Bool) → nat_eq (suc k) i ≡ b → (entry_at g i).ending_lba < x → IsFreeIn is.free x → k < length (entries_in g) → ¬ IsTrue (covers x (entry_at g (suc k)))
  uncovered_by x k true is_it behind free below = λ covered.
      let at : IsTrue (covers x (entry_at g i)) = subst (λ (n : ℕ). IsTrue (covers x (entry_at g n))) (eqb-true (suc k) i is_it) covered in
      not_covered x (entry_at g i) behind at
  uncovered_by x k false other behind free below = λ covered.
      let same : entry_at is.free (suc k) ≡ entry_at g (suc k) = same_other (suc k) (omega arith) (eqb-false (suc k) i other) in
      free.uncovered k empty_entry (omega (arith, below, same_length))
      (subst (λ (e : GPTPartitionEntry). IsTrue (covers x e)) (sym same ∙ at_number is.free k (suc k) (omega arith)) covered)

  free_behind : (x : ℕ) → (entry_at g i).ending_lba < x → IsFreeIn is.free x → IsFreeIn g x
  free_behind x behind free = record {
    usable = subst (λ (h : GPTHeader). IsUsable h x) same_header free.usable;
    uncovered = λ k d below. λ covered.
        uncovered_by x k (nat_eq (suc k) i) refl behind free below
        (subst (λ (e : GPTPartitionEntry). IsTrue (covers x e)) (get_or_default (entries_in g) k d empty_entry below ∙ sym (at_number g k (suc k) (omega arith))) covered);
  }

  same_align : align ≡ is.align
  same_align =
      let asked : align_asked (Sectors align) g.sector_size ≡ Ok is.align = subst (λ (m : Amount). align_asked m g.sector_size ≡ Ok is.align) change.align is.is_align in
      (else_ok (nat_eq align 0) NoAlignment align is.align asked).1

  reached_by : ((entry_at next i).ending_lba ≡ (entry_at g i).ending_lba)
      ⊎ (((entry_at g i).starting_lba ≤ (entry_at g i).ending_lba) × (is.align ∣ (entry_at next i).ending_lba + 1)
      × AreFreeBehind (IsFreeIn is.free) (entry_at g i).ending_lba (entry_at next i).ending_lba)
      → ((entry_at next i).ending_lba ≡ (entry_at g i).ending_lba)
      ⊎ (((entry_at g i).starting_lba ≤ (entry_at g i).ending_lba) × (align ∣ (entry_at next i).ending_lba + 1)
      × AreFreeBehind (IsFreeIn g) (entry_at g i).ending_lba (entry_at next i).ending_lba)
  reached_by (inl same) = inl same
  reached_by (inr to) = inr (
    to.0,
    subst (λ (n : ℕ). n ∣ (entry_at next i).ending_lba + 1) (sym same_align) to.1,
    λ x behind within. free_behind x behind (to.2 x behind within),
  )

  pub lengthened : LayoutsOnlyLengthen → a.size ≡ Some Rest → a.start ≡ None
      → IsLengthened align (entry_at g i) (entry_at next i) (IsFreeIn g) (IsFreeIn (with_entry next i empty_entry))
  lengthened law size start =
      let has : Contains layout.asked.items a = subst (λ (asked : List Asked). Contains asked a) (sym change.asked) (contains_first a []) in
      let long : length layout.asked.items ≤ length randoms = subst (λ (asked : List Asked). length asked ≤ length randoms) (sym change.asked) enough in
      let longer : IsLengthened is.align (entry_at g i) (entry_at next i) (IsFreeIn is.free) (IsFreeIn (with_entry next i empty_entry)) =
      law layout randoms g next a i (inl change.mode) long has number size (inl start) is in
      record {
        start = longer.start;
        end = longer.end;
        reached = reached_by longer.reached;
        furthest = λ ordered e multiple above. longer.furthest ordered e (subst (λ (n : ℕ). n ∣ e + 1) same_align multiple) above;
      }

-- ---- another name

-- the request for another name
abbrev pub renaming : ℕ → PartitionName → Asked
renaming i name = record (nothing_of (Some i)) { name = Some name }

pub renamed : (align i : ℕ) (name : PartitionName) (layout : RequestedLayout) (randoms : List (List ℕ)) (g next : GPT) → IsChangeOf (renaming i name) align layout → 1 ≤ length randoms
    → IsApplied layout randoms g next → LayoutsChangeNamed → entry_at next i ≡ with_name name (entry_at g i)
renamed align i name layout randoms g next change enough is law =
    let a : Asked = renaming i name in
    let only = one a align i layout randoms g next change refl enough is in
    let put = there a align i layout randoms g next change refl enough is law in
    let e : GPTPartitionEntry = entry_at g i in
    let stays : ◌≡◌ {A = Result Place Refusal} (Ok (At e.starting_lba e.ending_lba)) (Ok only.p.place) = only.asked.place in
    let place : only.p.place ≡ At e.starting_lba e.ending_lba = cc in
    let span : put.range ≡ between e.starting_lba e.ending_lba = subst (λ (q : Place). IsSpan q is.free put.range) place put.span in
    let first : put.range.first ≡ e.starting_lba = ap (λ (s : SectorRange). s.first) span in
    let last : put.range.last ≡ e.ending_lba = ap (λ (s : SectorRange). s.last) span in
    let entry : only.p.entry ≡ with_name name e = only.asked.entry in
    let stands : entry_at is.placed only.p.number ≡ with_name name e = put.entry ∙ (λ k. record (entry k) { starting_lba = first k; ending_lba = last k }) in
    not_longer a align i layout randoms g next change refl enough is law refl only.asked.low
    ∙ subst (λ (n : ℕ). entry_at is.placed n ≡ with_name name e) only.asked.number stands
