-- A layout is applied again to the table that it made.
use Rattle.std.proofs.Common.{◌≡◌, ◌≢◌, ◌≤◌, ◌⊎◌, inl, inr, ℕ, ◌-◌, List, [], ◌∷◌, refl, sym, ap, ◌∙◌, subst, arith, suc, IsTrue, Bool, true, false, length}
use Rattle.std.specs.Prelude.{Option, Some, None, Result, Ok, Err, All, nat_eq, nat_le, not, slice_get, unwrap_or, if◌then◌else◌}
use Rattle.std.proofs.lemmas.Bool.{eqb-false, eqb-true, leb-true}
use Rattle.std.proofs.lemmas.List.{length-set}
use Rattle.std.proofs.lemmas.Option.{slice_get_within, slice_get-get_or}
use Rattle.gptman.specs.Coding.{empty_entry}
use Rattle.gptman.specs.Entry.{is_unused, is_used}
use Rattle.gptman.specs.Number.{entry_at, entry_of_number, with_entry}
use Rattle.gptman.specs.Table.{entries_in}
use Rattle.gptman.specs.declared.codec.entry.GPTPartitionEntry.{GPTPartitionEntry}
use Rattle.gptman.specs.declared.codec.header.GPTHeader.{GPTHeader}
use Rattle.gptman.specs.declared.table.GPT.{GPT}
use Rattle.gptedit_core.specs.Applying.{align_asked, asks_rest, rest_numbers, IsApplied}
use Rattle.gptedit_core.specs.Named.{AreNumbered, AreThere, IsAgain, IsThere, IsUnnamed, LayoutsStay}
use Rattle.gptedit_core.specs.Resolving.{and_then, entry_asked, entry_there, lowest_unused, number_asked, number_asked_or, partition_at, place_asked, resolved, resolved_all, unless, use_fault, used_at}
use Rattle.gptedit_core.specs.declared.amount.Amount.{Amount}
use Rattle.gptedit_core.specs.declared.asked.Asked.{Asked}
use Rattle.gptedit_core.specs.declared.asked.RequestedLayout.{RequestedLayout}
use Rattle.gptedit_core.specs.declared.asked.Mode.{Mode}
use Rattle.gptedit_core.specs.declared.asked.Mode.TheVariants.{Become}
use Rattle.gptedit_core.specs.declared.place.Place.{Place}
use Rattle.gptedit_core.specs.declared.place.Place.TheVariants.{At}
use Rattle.gptedit_core.specs.declared.refusal.Refusal.{Refusal}
use Rattle.gptedit_core.specs.declared.refusal.Refusal.TheVariants.{NoEntry, NoType}
use Rattle.gptedit_core.specs.declared.resolve.ResolvedPartition.{ResolvedPartition}
use Rattle.gptedit_core.specs.declared.plan.Job.TheVariants.{Apply}
use Rattle.gptedit_core.proofs.Requested.{asked_same}
use Rattle.gptedit_core.proofs.Dumped.{equal_entries, own_part, own_there, used_is, with_used, HasNumber, IsOwn, OwnedBy}
use Rattle.gptedit_core.proofs.Kept.{done_keeps}
use Rattle.gptedit_core.proofs.Extended.{all_settled, extended_same, idle, settled_as, AllSettled, OnlyEnd}
use Rattle.gptedit_core.proofs.Exact.{exact, unnamed_more}
use Rattle.gptedit_core.proofs.Placed.{last_end, placed_align, placed_keeps, placed_there, AreExact}
use Rattle.gptedit_core.proofs.Same.{cleared_same, put_same, removed_same}
use Rattle.gptedit_core.proofs.Steps.{and_then_ok, else_ok}

-- ---- one entry

twice : {A : Type 0} (o : Option A) (x : A) → unwrap_or o (unwrap_or o x) ≡ unwrap_or o x
twice None x = refl
twice (Some a) x = refl

-- An entry that was put has the requested fields, at any place.
pub asked_again : (a : Asked) (x : GPTPartitionEntry) (random : List ℕ) (first last : ℕ) →
    let y : GPTPartitionEntry = record x {
      partition_type_guid = unwrap_or a.type_guid x.partition_type_guid;
      unique_partition_guid = unwrap_or a.unique_guid x.unique_partition_guid;
      attribute_bits = unwrap_or a.attributes x.attribute_bits;
      partition_name = unwrap_or a.name x.partition_name;
      starting_lba = first;
      ending_lba = last;
    } in entry_asked a (Some y) random ≡ y
asked_again a x random first last = λ i. record x {
  partition_type_guid = twice a.type_guid x.partition_type_guid i;
  unique_partition_guid = twice a.unique_guid x.unique_partition_guid i;
  attribute_bits = twice a.attributes x.attribute_bits i;
  partition_name = twice a.name x.partition_name i;
  starting_lba = first;
  ending_lba = last;
}

pub used_of : (b : Bool) → (¬ IsTrue b) → IsTrue (not b)
used_of true unused = absurd (unused refl)
used_of false unused = refl

-- The requested number is that of an entry.
given_at : (o : Option GPTPartitionEntry) (i n : ℕ) → ◌≡◌ {A = Result ℕ Refusal} (elim o [ None ↦ Err (NoEntry i) | Some e ↦ Ok i ]) (Ok n)
    → (i ≡ n) × ((e : GPTPartitionEntry) × (o ≡ Some e))
given_at None i n is = absurd (cc)
given_at (Some e) i n is = let same : i ≡ n = cc in (same, (e, refl))

pub given : (g : GPT) (a : Asked) (i n : ℕ) → a.number ≡ Some i → number_asked g a ≡ Ok n → (i ≡ n) × ((e : GPTPartitionEntry) × (entry_of_number g i ≡ Some e))
given g a i n number is =
    given_at (entry_of_number g i) i n (subst (λ (o : Option ℕ). number_asked_or g o (lowest_unused g) ≡ Ok n) number is)

-- Its number is above zero, and the entry exists.
pub of_by : (g : GPT) (i : ℕ) (e : GPTPartitionEntry) (b : Bool) → nat_le 1 i ≡ b
    → ◌≡◌ {A = Option GPTPartitionEntry} (if b then slice_get (entries_in g) (i - 1) else None) (Some e) → (1 ≤ i) × (entry_at g i ≡ e)
of_by g i e false low is = absurd (cc)
of_by g i e true low is =
    let below = slice_get_within (entries_in g) (i - 1) e is in
    let found = sym (slice_get-get_or (entries_in g) (i - 1) empty_entry below) ∙ is in
    let same : entry_at g i ≡ e = cc in
    (leb-true 1 i low, same)

-- The partition that was put first, under a requested number.
pub record IsFirst (a : Asked) (i : ℕ) (p : ResolvedPartition) : Type 0 where
  pub number : i ≡ p.number
  pub x : GPTPartitionEntry
  pub used : ¬ IsTrue (is_unused p.entry)
  pub entry : p.entry ≡ record x {
    partition_type_guid = unwrap_or a.type_guid x.partition_type_guid;
    unique_partition_guid = unwrap_or a.unique_guid x.unique_partition_guid;
    attribute_bits = unwrap_or a.attributes x.attribute_bits;
    partition_name = unwrap_or a.name x.partition_name;
  }

pub is_first : (g : GPT) (mode : Mode) (a : Asked) (random : List ℕ) (i : ℕ) (p : ResolvedPartition) → a.number ≡ Some i → resolved g mode a random ≡ Ok p → IsFirst a i p
is_first g mode a random i p number_is is =
    let number = and_then_ok (number_asked g a) (partition_at g mode a random) p is in
    let n : ℕ = number.0 in
    let used = used_at g n in
    let e : GPTPartitionEntry = entry_asked a used random in
    let last : Place → Result ResolvedPartition Refusal = λ place. if is_unused e then Err (NoType n) else Ok (record { number = n; entry = e; place = place }) in
    let use_of = and_then_ok (unless (use_fault mode n used) n) (λ (j : ℕ). and_then (place_asked mode a n used g.sector_size) last) p number.2 in
    let place = and_then_ok (place_asked mode a n used g.sector_size) last p use_of.2 in
    let end = else_ok (is_unused e) (NoType n) (record { number = n; entry = e; place = place.0 }) p place.2 in
    let same : i ≡ n = (given g a i n number_is number.1).0 in
    subst (IsFirst a i) end.1 (record { number = same; x = entry_there used random; used = end.0; entry = refl })

-- Its requested place.
pub place_first : (g : GPT) (mode : Mode) (a : Asked) (random : List ℕ) (p : ResolvedPartition) → resolved g mode a random ≡ Ok p
    → place_asked mode a p.number (used_at g p.number) g.sector_size ≡ Ok p.place
place_first g mode a random p is =
    let number = and_then_ok (number_asked g a) (partition_at g mode a random) p is in
    let i : ℕ = number.0 in
    let used = used_at g i in
    let e : GPTPartitionEntry = entry_asked a used random in
    let last : Place → Result ResolvedPartition Refusal = λ place. if is_unused e then Err (NoType i) else Ok (record { number = i; entry = e; place = place }) in
    let use_of = and_then_ok (unless (use_fault mode i used) i) (λ (j : ℕ). and_then (place_asked mode a i used g.sector_size) last) p number.2 in
    let place = and_then_ok (place_asked mode a i used g.sector_size) last p use_of.2 in
    let end = else_ok (is_unused e) (NoType i) (record { number = i; entry = e; place = place.0 }) p place.2 in
    subst (λ (q : ResolvedPartition). place_asked mode a q.number (used_at g q.number) g.sector_size ≡ Ok q.place) end.1 place.1

-- Requested again, it is the entry that is in the table.
own_again : (g t placed next : GPT) (mode : Mode) (a : Asked) (random other : List ℕ) (i : ℕ) (p q : ResolvedPartition) → a.number ≡ Some i → next.sector_size ≡ g.sector_size
    → resolved g mode a random ≡ Ok p → IsThere p t placed → ((j : ℕ) → 1 ≤ j → OnlyEnd (entry_at placed j) (entry_at next j))
    → (asks_rest a.size ≡ false → entry_at next p.number ≡ entry_at placed p.number) → resolved next (Become false) a other ≡ Ok q → IsOwn next q
own_again g t placed next mode a random other i p q number_is sector is there ends exact again =
    let first = is_first g mode a random i p number_is is in
    let number = and_then_ok (number_asked next a) (partition_at next (Become false) a other) q again in
    let here = given next a i number.0 number_is number.1 in
    let at = of_by next i here.1.0 (nat_le 1 i) refl here.1.1 in
    let last : ℕ = (entry_at next p.number).ending_lba in
    let y : GPTPartitionEntry = record first.x {
      partition_type_guid = unwrap_or a.type_guid first.x.partition_type_guid;
      unique_partition_guid = unwrap_or a.unique_guid first.x.unique_partition_guid;
      attribute_bits = unwrap_or a.attributes first.x.attribute_bits;
      partition_name = unwrap_or a.name first.x.partition_name;
      starting_lba = there.range.first;
      ending_lba = last;
    } in
    let only = ends p.number (omega (arith, at.0, first.number)) in
    let put : entry_at next p.number ≡ y =
    only.same ∙ (ap (λ (e : GPTPartitionEntry). record e { ending_lba = last }) there.entry ∙ (λ k. record (first.entry k) { starting_lba = there.range.first; ending_lba = last })) in
    let stands : entry_at next i ≡ y = subst (λ (n : ℕ). entry_at next n ≡ y) (sym first.number) put in
    let found : entry_of_number next i ≡ Some y = here.1.1 ∙ ap Some (sym at.1 ∙ stands) in
    let type : ¬ IsTrue (is_unused y) = subst (λ (e : GPTPartitionEntry). ¬ IsTrue (is_unused e)) first.entry first.used in
    let used : IsTrue (is_used y) = used_of (is_unused y) type in
    let part : partition_at next (Become false) a other i ≡ Ok q = subst (λ (n : ℕ). partition_at next (Become false) a other n ≡ Ok q) (sym here.0) number.2 in
    let with : with_used next a other i (Some y) ≡ Ok q = subst (λ (u : Option GPTPartitionEntry). with_used next a other i u ≡ Ok q) (used_is next i y found used) part in
    let asked = place_first g mode a random p is in
    let end : asks_rest a.size ≡ false → there.range.last ≡ last =
    λ none. sym (ap (λ (e : GPTPartitionEntry). e.ending_lba) (exact none ∙ there.entry)) in
    let stays : (place : Place) → place_asked (Become false) a i (Some y) next.sector_size ≡ Ok place → place ≡ At there.range.first last =
    λ place now. asked_same p.number there.range.first there.range.last last a.choice t mode a (used_at g p.number) g.sector_size p.place place y refl refl refl asked there.span end
    (subst (λ (n : ℕ). place_asked (Become false) a n (Some y) g.sector_size ≡ Ok place) first.number
    (subst (λ (ss : ℕ). place_asked (Become false) a i (Some y) ss ≡ Ok place) sector now)) in
    (own_part next a i y other q at.0 stands used (asked_again a first.x other there.range.first last) stays with).1

-- ---- all entries

pub all_again : (g t placed next : GPT) (mode : Mode) (asked : List Asked) (randoms others : List (List ℕ)) (ps qs : List ResolvedPartition) → AreNumbered asked
    → length asked ≤ length randoms → length asked ≤ length others → next.sector_size ≡ g.sector_size → resolved_all g mode asked randoms ≡ Ok ps → AreThere ps t placed
    → ((j : ℕ) → 1 ≤ j → OnlyEnd (entry_at placed j) (entry_at next j)) → AreExact (λ j. entry_at next j ≡ entry_at placed j) asked ps → resolved_all next (Become false) asked others ≡ Ok qs → OwnedBy next qs
all_again g t placed next mode [] randoms others ps qs numbered long more sector all there ends exact again = let none : [] ≡ qs = cc in subst (OwnedBy next) none tt
all_again g t placed next mode (a ∷ asked) [] others ps qs numbered long more sector all there ends exact again = absurd (omega (arith, long))
all_again g t placed next mode (a ∷ asked) (random ∷ randoms) [] ps qs numbered long more sector all there ends exact again = absurd (omega (arith, more))
all_again g t placed next mode (a ∷ asked) (random ∷ randoms) (other ∷ others) ps qs numbered long more sector all there ends exact again =
    let p = and_then_ok (resolved g mode a random) _ ps all in
    let rest = and_then_ok (resolved_all g mode asked randoms) _ ps p.2 in
    let whole : p.0 ∷ rest.0 ≡ ps = cc in
    let both : AreThere (p.0 ∷ rest.0) t placed = subst (λ (xs : List ResolvedPartition). AreThere xs t placed) (sym whole) there in
    let exacts : AreExact (λ j. entry_at next j ≡ entry_at placed j) (a ∷ asked) (p.0 ∷ rest.0) =
    subst (AreExact (λ j. entry_at next j ≡ entry_at placed j) (a ∷ asked)) (sym whole) exact in
    let q = and_then_ok (resolved next (Become false) a other) _ qs again in
    let last = and_then_ok (resolved_all next (Become false) asked others) _ qs q.2 in
    let same : q.0 ∷ last.0 ≡ qs = cc in
    let mid : GPT = with_entry t p.0.number (entry_at placed p.0.number) in
    subst (OwnedBy next) same (
      own_again g t placed next mode a random other numbered.0.0 p.0 q.0 numbered.0.1 sector p.1 both.0 ends exacts.0 q.1,
      all_again g mid placed next mode asked randoms others rest.0 last.0 numbered.1 (omega (arith, long)) (omega (arith, more)) sector rest.1 both.1 ends exacts.1 last.1,
    )

-- ---- the entries of the resulting table

named_by : (j : ℕ) (p : ResolvedPartition) (ps : List ResolvedPartition) (b : Bool) → nat_eq p.number j ≡ b → (HasNumber j ps ⊎ IsUnnamed j ps) → HasNumber j (p ∷ ps) ⊎ IsUnnamed j (p ∷ ps)
named_by j p ps true is rest = inl (inl (eqb-true p.number j is))
named_by j p ps false is (inl has) = inl (inr has)
named_by j p ps false is (inr unnamed) = inr (unnamed_more j p ps (eqb-false p.number j is) unnamed)

pub named_or : (j : ℕ) (ps : List ResolvedPartition) → HasNumber j ps ⊎ IsUnnamed j ps
named_or j [] = inr (λ k d below. absurd (omega (arith, below)))
named_or j (p ∷ ps) = named_by j p ps (nat_eq p.number j) refl (named_or j ps)

-- The numbers of those that get the rest are the same.
same_numbers : (g next : GPT) (mode : Mode) (asked : List Asked) (randoms others : List (List ℕ)) (ps qs : List ResolvedPartition) → AreNumbered asked
    → length asked ≤ length randoms → length asked ≤ length others → resolved_all g mode asked randoms ≡ Ok ps
    → resolved_all next (Become false) asked others ≡ Ok qs → rest_numbers asked ps ≡ rest_numbers asked qs
same_numbers g next mode [] randoms others ps qs numbered long more all again = refl
same_numbers g next mode (a ∷ asked) [] others ps qs numbered long more all again = absurd (omega (arith, long))
same_numbers g next mode (a ∷ asked) (random ∷ randoms) [] ps qs numbered long more all again = absurd (omega (arith, more))
same_numbers g next mode (a ∷ asked) (random ∷ randoms) (other ∷ others) ps qs numbered long more all again =
    let p = and_then_ok (resolved g mode a random) _ ps all in
    let rest = and_then_ok (resolved_all g mode asked randoms) _ ps p.2 in
    let first : p.0 ∷ rest.0 ≡ ps = cc in
    let q = and_then_ok (resolved next (Become false) a other) _ qs again in
    let last = and_then_ok (resolved_all next (Become false) asked others) _ qs q.2 in
    let second : q.0 ∷ last.0 ≡ qs = cc in
    let number : p.0.number ≡ q.0.number =
    sym (is_first g mode a random numbered.0.0 p.0 numbered.0.1 p.1).number ∙ (is_first next (Become false) a other numbered.0.0 q.0 numbered.0.1 q.1).number in
    let same = same_numbers g next mode asked randoms others rest.0 last.0 numbered.1 (omega (arith, long)) (omega (arith, more)) rest.1 last.1 in
    let here : rest_numbers (a ∷ asked) (p.0 ∷ rest.0) ≡ rest_numbers (a ∷ asked) (q.0 ∷ last.0) = λ k. if asks_rest a.size then number k ∷ same k else same k in
    sym (ap (rest_numbers (a ∷ asked)) first) ∙ (here ∙ ap (rest_numbers (a ∷ asked)) second)

-- ---- the whole table

module _ (g next after : GPT) (layout again : RequestedLayout) (randoms others : List (List ℕ)) (numbered : AreNumbered layout.asked.items) (is_again : IsAgain layout again)
    (long : length layout.asked.items ≤ length randoms) (more : length layout.asked.items ≤ length others)
    (applied : IsApplied layout randoms g next) (applied_again : IsApplied again others next after) where
  second : resolved_all next (Become false) layout.asked.items others ≡ Ok applied_again.partitions
  second =
      subst (λ (m : Mode). resolved_all next m layout.asked.items others ≡ Ok applied_again.partitions) is_again.mode
      (subst (λ (items : List Asked). resolved_all next again.mode items others ≡ Ok applied_again.partitions) is_again.asked applied_again.asked)

  owned : OwnedBy next applied_again.partitions
  owned = all_again g applied.free applied.placed next layout.mode layout.asked.items randoms others applied.partitions applied_again.partitions numbered long more
      (done_keeps (Apply layout) randoms g next applied).sector applied.asked
      (placed_there layout randoms g next applied) (last_end layout randoms g next applied) (exact layout randoms g next applied) second

  -- Putting the partitions results in the same entries,
  each_by : (m : ℕ) → (HasNumber (suc m) applied_again.partitions ⊎ IsUnnamed (suc m) applied_again.partitions) → entry_at applied_again.placed (suc m) ≡ entry_at next (suc m)
  each_by m (inl has) =
      own_there next applied_again.free applied_again.placed (suc m) applied_again.partitions owned (placed_there again others next after applied_again) has
  each_by m (inr unnamed) =
      let kept : All (λ (j : ℕ). j ≢ suc m) again.removed.items = subst (λ (js : List ℕ). All (λ (j : ℕ). j ≢ suc m) js) (sym is_again.removed) (λ k d below. absurd (omega (arith, below))) in
      (placed_keeps again others next after applied_again (suc m) (omega arith) unnamed kept).0

  placed_as : {X : Type 0} (f : GPT → X) → ((m : GPT) (i : ℕ) (e : GPTPartitionEntry) → f (with_entry m i e) ≡ f m) → f applied_again.placed ≡ f (record next { align = applied_again.align })
  placed_as f stays =
      put_same f stays applied_again.partitions applied_again.free applied_again.placed applied_again.put
      ∙ (cleared_same f stays applied_again.partitions applied_again.rest applied_again.free applied_again.clear
      ∙ removed_same f stays again.removed.items (record next { align = applied_again.align }) applied_again.rest applied_again.removed)

  placed_entries : entries_in applied_again.placed ≡ entries_in next
  placed_entries =
      equal_entries next applied_again.placed (placed_as (λ (m : GPT). length (entries_in m)) (λ m i e. length-set (entries_in m) (i - 1) e))
      (λ m. each_by m (named_or (suc m) applied_again.partitions))

  placed_header : applied_again.placed.header ≡ next.header
  placed_header = placed_as (λ (m : GPT). m.header) (λ m i e. refl)

  -- in which those that get the rest cannot end later,
  same_align : applied_again.align ≡ applied.align
  same_align =
      let sector : next.sector_size ≡ g.sector_size = (done_keeps (Apply layout) randoms g next applied).sector in
      let first : align_asked layout.align g.sector_size ≡ Ok applied.align = applied.is_align in
      let both : Ok applied_again.align ≡ Ok applied.align =
      sym applied_again.is_align ∙ (ap (λ (amount : Amount). align_asked amount next.sector_size) is_again.align ∙ (ap (align_asked layout.align) sector ∙ first)) in
      cc

  settled : AllSettled (rest_numbers again.asked.items applied_again.partitions) applied_again.placed
  settled =
      let numbers : rest_numbers layout.asked.items applied.partitions ≡ rest_numbers again.asked.items applied_again.partitions =
      same_numbers g next layout.mode layout.asked.items randoms others applied.partitions applied_again.partitions numbered long more applied.asked second
      ∙ ap (λ (items : List Asked). rest_numbers items applied_again.partitions) (sym is_again.asked) in
      let end : applied.last.align ≡ applied_again.placed.align =
      extended_same (λ (m : GPT). m.align) (λ m i e. refl) (rest_numbers layout.asked.items applied.partitions) applied.placed applied.last applied.extended
      ∙ (placed_align layout randoms g next applied ∙ (sym same_align ∙ sym (placed_as (λ (m : GPT). m.align) (λ m i e. refl)))) in
      subst (λ (is : List ℕ). AllSettled is applied_again.placed) numbers
      (settled_as (rest_numbers layout.asked.items applied.partitions) applied.last applied_again.placed
      (placed_entries ∙ ap (λ (m : GPT). entries_in m) applied.next_is)
      (ap (λ (h : GPTHeader). h.first_usable_lba) placed_header ∙ ap (λ (m : GPT). m.header.first_usable_lba) applied.next_is)
      (ap (λ (h : GPTHeader). h.last_usable_lba) placed_header ∙ ap (λ (m : GPT). m.header.last_usable_lba) applied.next_is)
      end (all_settled (rest_numbers layout.asked.items applied.partitions) applied.placed applied.last applied.extended))

  -- so lengthening them changes nothing.
  last_is : applied_again.last ≡ applied_again.placed
  last_is = idle (rest_numbers again.asked.items applied_again.partitions) applied_again.placed applied_again.last settled applied_again.extended

  same_entries : entries_in after ≡ entries_in next
  same_entries = ap (λ (m : GPT). entries_in m) applied_again.next_is ∙ (ap (λ (m : GPT). entries_in m) last_is ∙ placed_entries)

  last_header : applied_again.last.header ≡ next.header
  last_header = ap (λ (m : GPT). m.header) last_is ∙ placed_header

  same_guid : after.header.disk_guid ≡ next.header.disk_guid
  same_guid =
      let first : next.header.disk_guid ≡ unwrap_or layout.disk_guid applied.last.header.disk_guid = ap (λ (m : GPT). m.header.disk_guid) applied.next_is in
      ap (λ (m : GPT). m.header.disk_guid) applied_again.next_is
      ∙ (ap (λ (o : Option (List ℕ)). unwrap_or o applied_again.last.header.disk_guid) is_again.disk_guid
      ∙ (ap (unwrap_or layout.disk_guid) (ap (λ (h : GPTHeader). h.disk_guid) last_header ∙ first) ∙ (twice layout.disk_guid applied.last.header.disk_guid ∙ sym first)))

  same_header : after.header ≡ next.header
  same_header =
      let is : after.header ≡ record applied_again.last.header { disk_guid = after.header.disk_guid } =
      ap (λ (m : GPT). m.header) applied_again.next_is ∙ ap (λ (guid : List ℕ). record applied_again.last.header { disk_guid = guid }) (sym (ap (λ (m : GPT). m.header.disk_guid) applied_again.next_is)) in
      is ∙ (λ i. record (last_header i) { disk_guid = same_guid i })

  same_value : after ≡ next
  same_value =
      let sector : after.sector_size ≡ next.sector_size = (done_keeps (Apply again) others next after applied_again).sector in
      let align : after.align ≡ next.align = ap (λ (m : GPT). m.align) applied_again.next_is in
      λ i. record { sector_size = sector i; header = same_header i; partitions = same_entries i; align = align i }

pub layouts_stay : LayoutsStay
layouts_stay g next after layout again randoms others numbered is_again long more applied applied_again =
    same_value g next after layout again randoms others numbered is_again long more applied applied_again
