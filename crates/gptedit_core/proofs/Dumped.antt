-- Applying the layout of a table to that table gives the same table.
use Rattle.std.proofs.Common.{◌≡◌, ◌≢◌, ◌≤◌, ◌<◌, ◌⊎◌, inl, inr, ℕ, ◌+◌, ◌-◌, List, [], ◌∷◌, refl, sym, ap, ◌∙◌, subst, arith, zero, suc, IsTrue, Bool, true, false, length}
use Rattle.std.specs.Prelude.{Option, Some, None, Result, Ok, Err, All, get_or, nat_le, slice_get, unwrap_or, if◌then◌else◌}
use Rattle.std.specs.List.{enumerate_from}
use Rattle.std.proofs.lemmas.Bool.{le-leb}
use Rattle.std.proofs.lemmas.List.{get_or_default, same_lists}
use Rattle.std.proofs.lemmas.Option.{slice_get-get_or}
use Rattle.gptman.specs.Coding.{empty_entry}
use Rattle.gptman.specs.Entry.{is_unused, is_used}
use Rattle.gptman.specs.Number.{entry_at, entry_of_number, with_entry}
use Rattle.gptman.specs.Table.{entries_in, table_in, table_of}
use Rattle.gptman.specs.declared.codec.entry.GPTPartitionEntry.{GPTPartitionEntry}
use Rattle.gptman.specs.declared.codec.header.GPTHeader.{GPTHeader}
use Rattle.gptman.specs.declared.table.GPT.{GPT}
use Rattle.gptedit_core.specs.Dumping.{asked_of, asked_of_all, IsLayoutOf}
use Rattle.gptedit_core.specs.Applying.{rest_numbers, IsApplied}
use Rattle.gptedit_core.specs.Named.{AreThere, IsAmong, IsUnnamed, LayoutsGiveTable, StaysAs}
use Rattle.gptedit_core.specs.Placing.{IsSpan}
use Rattle.gptedit_core.specs.Resolving.{and_then, entry_asked, number_asked, partition_at, place_asked, resolved, resolved_all, unless, use_fault, used_at}
use Rattle.gptedit_core.specs.Sectors.{between}
use Rattle.gptedit_core.specs.declared.asked.Asked.{Asked}
use Rattle.gptedit_core.specs.declared.asked.RequestedLayout.{RequestedLayout}
use Rattle.gptedit_core.specs.declared.asked.Mode.{Mode}
use Rattle.gptedit_core.specs.declared.asked.Mode.TheVariants.{Become}
use Rattle.gptedit_core.specs.declared.place.Place.{Place}
use Rattle.gptedit_core.specs.declared.place.Place.TheVariants.{At}
use Rattle.gptedit_core.specs.declared.refusal.Refusal.{Refusal}
use Rattle.gptedit_core.specs.declared.refusal.Refusal.TheVariants.{NoEntry, NoType}
use Rattle.gptedit_core.specs.declared.resolve.ResolvedPartition.{ResolvedPartition}
use Rattle.gptedit_core.specs.declared.plan.Job.TheVariants.{Apply}
use Rattle.gptedit_core.specs.declared.sectors.SectorRange.{SectorRange}
use Rattle.gptedit_core.proofs.Requested.{own_place}
use Rattle.gptedit_core.proofs.Kept.{done_keeps}
use Rattle.gptedit_core.proofs.Placed.{last_exact, other_stays, placed_there}
use Rattle.gptedit_core.proofs.Steps.{and_then_ok, else_ok}

-- ---- one entry that is requested unchanged

-- The partition is the used entry of its number, at its place.
pub record IsOwn (g : GPT) (p : ResolvedPartition) : Type 0 where
  pub low : 1 ≤ p.number
  pub e : GPTPartitionEntry
  pub at : entry_at g p.number ≡ e
  pub used : IsTrue (is_used e)
  pub entry : p.entry ≡ e
  pub place : p.place ≡ At e.starting_lba e.ending_lba

abbrev pub with_used : GPT → Asked → List ℕ → ℕ → Option GPTPartitionEntry → Result ResolvedPartition Refusal
with_used g a random i used =
    let e = entry_asked a used random in
    and_then (unless (use_fault (Become false) i used) i) (λ _.
    and_then (place_asked (Become false) a i used g.sector_size) (λ place.
    if is_unused e then Err (NoType i) else Ok (record { number = i; entry = e; place = place })))

-- A request that makes a used entry what it is, at its place.
pub own_part : (g : GPT) (a : Asked) (i : ℕ) (e : GPTPartitionEntry) (random : List ℕ) (p : ResolvedPartition) → 1 ≤ i → entry_at g i ≡ e → IsTrue (is_used e)
    → entry_asked a (Some e) random ≡ e → ((place : Place) → place_asked (Become false) a i (Some e) g.sector_size ≡ Ok place → place ≡ At e.starting_lba e.ending_lba)
    → with_used g a random i (Some e) ≡ Ok p → (p.number ≡ i) × IsOwn g p
own_part g a i e random p low at used same stays is =
    let asked : GPTPartitionEntry = entry_asked a (Some e) random in
    let place = and_then_ok (place_asked (Become false) a i (Some e) g.sector_size) _ p is in
    let whole : ResolvedPartition = record { number = i; entry = asked; place = place.0 } in
    let end = else_ok (is_unused asked) (NoType i) whole p place.2 in (
      sym (ap (λ (q : ResolvedPartition). q.number) end.1),
      subst (IsOwn g) end.1 (record { low = low; e = e; at = at; used = used; entry = same; place = stays place.0 place.1 }),
    )

pub used_is : (g : GPT) (i : ℕ) (e : GPTPartitionEntry) → entry_of_number g i ≡ Some e → IsTrue (is_used e) → used_at g i ≡ Some e
used_is g i e found used =
    subst (λ (o : Option GPTPartitionEntry). ◌≡◌ {A = Option GPTPartitionEntry} (elim o [ None ↦ None | Some x ↦ if is_used x then Some x else None ]) (Some e)) (sym found)
    (subst (λ (b : Bool). ◌≡◌ {A = Option GPTPartitionEntry} (if b then Some e else None) (Some e)) (sym used) refl)

own_one : (g : GPT) (i : ℕ) (e : GPTPartitionEntry) (random : List ℕ) (p : ResolvedPartition) → 1 ≤ i → entry_of_number g i ≡ Some e → entry_at g i ≡ e → IsTrue (is_used e)
    → resolved g (Become false) (asked_of i e) random ≡ Ok p → (p.number ≡ i) × IsOwn g p
own_one g i e random p low found at used is =
    let a : Asked = asked_of i e in
    let number = and_then_ok (number_asked g a) (partition_at g (Become false) a random) p is in
    let here : number_asked g a ≡ Ok i =
    subst (λ (o : Option GPTPartitionEntry). ◌≡◌ {A = Result ℕ Refusal} (elim o [ None ↦ Err (NoEntry i) | Some x ↦ Ok i ]) (Ok i)) (sym found) refl in
    let both : Ok i ≡ Ok number.0 = sym here ∙ number.1 in
    let same : number.0 ≡ i = cc in
    let part : partition_at g (Become false) a random i ≡ Ok p = subst (λ (n : ℕ). partition_at g (Become false) a random n ≡ Ok p) same number.2 in
    own_part g a i e random p low at used refl (own_place i g.sector_size e) (subst (λ (u : Option GPTPartitionEntry). with_used g a random i u ≡ Ok p) (used_is g i e found used) part)

-- ---- all entries

abbrev pub OwnedBy : GPT → List ResolvedPartition → Type 0
OwnedBy g [] = Unit {0}
OwnedBy g (p ∷ ps) = IsOwn g p × OwnedBy g ps

abbrev pub HasNumber : ℕ → List ResolvedPartition → Type 0
HasNumber i [] = ⊥
HasNumber i (p ∷ ps) = (p.number ≡ i) ⊎ HasNumber i ps

-- The table has these entries from number k on.
abbrev pub HasFrom : GPT → ℕ → List GPTPartitionEntry → Type 0
HasFrom g k [] = Unit {0}
HasFrom g k (e ∷ es) = (entry_of_number g k ≡ Some e) × (entry_at g k ≡ e) × HasFrom g (k + 1) es

-- Each used one of them is requested.
abbrev pub CoversFrom : List ResolvedPartition → ℕ → List GPTPartitionEntry → Type 0
CoversFrom ps k [] = Unit {0}
CoversFrom ps k (e ∷ es) = (IsTrue (is_used e) → HasNumber k ps) × CoversFrom ps (k + 1) es

covers_more : (p : ResolvedPartition) (ps : List ResolvedPartition) (k : ℕ) (es : List GPTPartitionEntry) → CoversFrom ps k es → CoversFrom (p ∷ ps) k es
covers_more p ps k [] is = tt
covers_more p ps k (e ∷ es) is = (λ used. inr (is.0 used), covers_more p ps (k + 1) es is.1)

abbrev pub if_used : Bool → ℕ → GPTPartitionEntry → List Asked → List Asked
if_used b k e asked = if b then asked_of k e ∷ asked else asked

own_more : (g : GPT) (b : Bool) (k : ℕ) (e : GPTPartitionEntry) (es : List GPTPartitionEntry) (randoms : List (List ℕ)) (ps : List ResolvedPartition) → 1 ≤ k → is_used e ≡ b
    → entry_of_number g k ≡ Some e → entry_at g k ≡ e
    → length (if_used b k e (asked_of_all (enumerate_from (k + 1) es))) ≤ length randoms
    → resolved_all g (Become false) (if_used b k e (asked_of_all (enumerate_from (k + 1) es))) randoms ≡ Ok ps
    → ((rs : List (List ℕ)) (qs : List ResolvedPartition) → length (asked_of_all (enumerate_from (k + 1) es)) ≤ length rs
    → resolved_all g (Become false) (asked_of_all (enumerate_from (k + 1) es)) rs ≡ Ok qs → OwnedBy g qs × CoversFrom qs (k + 1) es)
    → OwnedBy g ps × CoversFrom ps k (e ∷ es)
own_more g false k e es randoms ps low is found at enough all rest =
    let next = rest randoms ps enough all in
    (next.0, (λ used. absurd (cc), next.1))
own_more g true k e es [] ps low is found at enough all rest = absurd (omega (arith, enough))
own_more g true k e es (random ∷ randoms) ps low is found at enough all rest =
    let asked = asked_of_all (enumerate_from (k + 1) es) in
    let first = and_then_ok (resolved g (Become false) (asked_of k e) random) _ ps all in
    let others = and_then_ok (resolved_all g (Become false) asked randoms) _ ps first.2 in
    let same : first.0 ∷ others.0 ≡ ps = cc in
    let own = own_one g k e random first.0 low found at is first.1 in
    let next = rest randoms others.0 (omega (arith, enough)) others.1 in
    subst (λ (qs : List ResolvedPartition). OwnedBy g qs × CoversFrom qs k (e ∷ es)) same
    ((own.1, next.0), (λ used. inl own.0, covers_more first.0 others.0 (k + 1) es next.1))

pub all_own : (g : GPT) (k : ℕ) (es : List GPTPartitionEntry) (randoms : List (List ℕ)) (ps : List ResolvedPartition) → 1 ≤ k → HasFrom g k es
    → length (asked_of_all (enumerate_from k es)) ≤ length randoms → resolved_all g (Become false) (asked_of_all (enumerate_from k es)) randoms ≡ Ok ps
    → OwnedBy g ps × CoversFrom ps k es
all_own g k [] randoms ps low has enough all = let none : [] ≡ ps = cc in subst (λ (qs : List ResolvedPartition). OwnedBy g qs × CoversFrom qs k []) none (tt, tt)
all_own g k (e ∷ es) randoms ps low has enough all =
    own_more g (is_used e) k e es randoms ps low refl has.0 has.1 enough all
    (λ rs qs long is. all_own g (k + 1) es rs qs (omega (arith, low)) has.2 long is)

-- ---- the entries of the resulting table

-- The entry of a partition that was the table's own is unchanged.
pub own_there : (g t next : GPT) (j : ℕ) (ps : List ResolvedPartition) → OwnedBy g ps → AreThere ps t next → HasNumber j ps → entry_at next j ≡ entry_at g j
own_there g t next j [] own there has = absurd has
own_there g t next j (p ∷ ps) own there (inr has) = own_there g (with_entry t p.number (entry_at next p.number)) next j ps own.1 there.1 has
own_there g t next j (p ∷ ps) own there (inl same) =
    let own = own.0 in
    let put = there.0 in
    let span : put.range ≡ between own.e.starting_lba own.e.ending_lba = subst (λ (place : Place). IsSpan place t put.range) own.place put.span in
    let first : put.range.first ≡ own.e.starting_lba = ap (λ (s : SectorRange). s.first) span in
    let last : put.range.last ≡ own.e.ending_lba = ap (λ (s : SectorRange). s.last) span in
    let there : entry_at next p.number ≡ own.e =
    put.entry ∙ (λ i. record (own.entry i) { starting_lba = first i; ending_lba = last i }) in
    subst (λ (n : ℕ). entry_at next n ≡ entry_at g n) same (there ∙ sym own.at)

-- An unused entry is not named.
pub own_unnamed : (g : GPT) (j : ℕ) (ps : List ResolvedPartition) → OwnedBy g ps → is_used (entry_at g j) ≡ false → IsUnnamed j ps
own_unnamed g j [] own unused k p below = absurd (omega (arith, below))
own_unnamed g j (p ∷ ps) own unused zero q below = λ same.
    let used : is_used (entry_at g j) ≡ true = ap (λ (n : ℕ). is_used (entry_at g n)) (sym same) ∙ (ap is_used own.0.at ∙ own.0.used) in
    absurd (cc)
own_unnamed g j (p ∷ ps) own unused (suc k) q below = own_unnamed g j ps own.1 unused k q (omega (arith, below))

-- ---- the numbers of a list

has_from : (g : GPT) (k : ℕ) (es : List GPTPartitionEntry)
    → ((m : ℕ) → m < length es → (entry_of_number g (k + m) ≡ Some (get_or es m empty_entry)) × (entry_at g (k + m) ≡ get_or es m empty_entry)) → HasFrom g k es
has_from g k [] at = tt
has_from g k (e ∷ es) at =
    let start : k + 0 ≡ k = omega arith in
    let here = subst (λ (n : ℕ). (entry_of_number g n ≡ Some e) × (entry_at g n ≡ e)) start (at 0 (omega arith)) in (
      here.0,
      here.1,
      has_from g (k + 1) es (λ m below.
          let shift : k + suc m ≡ k + 1 + m = omega arith in
          subst (λ (n : ℕ). (entry_of_number g n ≡ Some (get_or es m empty_entry)) × (entry_at g n ≡ get_or es m empty_entry)) shift (at (suc m) (omega (arith, below)))),
    )

-- The entry of the number that is one above its index.
pub at_number : (g : GPT) (m n : ℕ) → n ≡ m + 1 → entry_at g n ≡ get_or (entries_in g) m empty_entry
at_number g m n is = let index : n - 1 ≡ m = omega (arith, is) in ap (λ (k : ℕ). get_or (entries_in g) k empty_entry) index

pub of_number : (g : GPT) (m n : ℕ) → n ≡ m + 1 → m < length (entries_in g) → entry_of_number g n ≡ Some (get_or (entries_in g) m empty_entry)
of_number g m n is below =
    let index : n - 1 ≡ m = omega (arith, is) in
    let above : nat_le 1 n ≡ true = le-leb 1 n (omega (arith, is)) in
    subst (λ (b : Bool). ◌≡◌ {A = Option GPTPartitionEntry} (if b then slice_get (entries_in g) (n - 1) else None) (Some (get_or (entries_in g) m empty_entry))) (sym above)
    (subst (λ (k : ℕ). slice_get (entries_in g) k ≡ Some (get_or (entries_in g) m empty_entry)) (sym index) (slice_get-get_or (entries_in g) m empty_entry below))

pub has_all : (g : GPT) → HasFrom g 1 (entries_in g)
has_all g = has_from g 1 (entries_in g) (λ m below. (of_number g m (1 + m) (omega arith) below, at_number g m (1 + m) (omega arith)))

covers_at : (ps : List ResolvedPartition) (k : ℕ) (es : List GPTPartitionEntry) (m : ℕ) → CoversFrom ps k es → m < length es → IsTrue (is_used (get_or es m empty_entry)) → HasNumber (k + m) ps
covers_at ps k [] m is below used = absurd (omega (arith, below))
covers_at ps k (e ∷ es) zero is below used = let start : k ≡ k + 0 = omega arith in subst (λ (n : ℕ). HasNumber n ps) start (is.0 used)
covers_at ps k (e ∷ es) (suc m) is below used =
    let shift : k + 1 + m ≡ k + suc m = omega arith in
    subst (λ (n : ℕ). HasNumber n ps) shift (covers_at ps (k + 1) es m is.1 (omega (arith, below)) used)

-- A used entry is in the list.
pub used_below : (es : List GPTPartitionEntry) (m : ℕ) → IsTrue (is_used (get_or es m empty_entry)) → m < length es
used_below [] m used = absurd (cc)
used_below (e ∷ es) zero used = omega arith
used_below (e ∷ es) (suc m) used = let less = used_below es m used in omega (arith, less)

-- If each used entry is requested, its number is named.
pub used_named : (g : GPT) (ps : List ResolvedPartition) (m : ℕ) → CoversFrom ps 1 (entries_in g) → is_used (entry_at g (suc m)) ≡ true → HasNumber (suc m) ps
used_named g ps m is used =
    let at : entry_at g (suc m) ≡ get_or (entries_in g) m empty_entry = at_number g m (suc m) (omega arith) in
    let here : IsTrue (is_used (get_or (entries_in g) m empty_entry)) = subst (λ (e : GPTPartitionEntry). IsTrue (is_used e)) at used in
    let below = used_below (entries_in g) m here in
    let shift : 1 + m ≡ suc m = omega arith in
    subst (λ (n : ℕ). HasNumber n ps) shift (covers_at ps 1 (entries_in g) m is below here)

-- Tables with equal entries under each number have equal lists of entries.
pub equal_entries : (g next : GPT) → length (entries_in next) ≡ length (entries_in g) → ((m : ℕ) → entry_at next (suc m) ≡ entry_at g (suc m)) → entries_in next ≡ entries_in g
equal_entries g next long each =
    same_lists (entries_in next) (entries_in g) long (λ k d below.
    get_or_default (entries_in next) k d empty_entry below ∙ (sym (at_number next k (suc k) (omega arith)) ∙ (each k
    ∙ (at_number g k (suc k) (omega arith) ∙ get_or_default (entries_in g) k empty_entry d (omega (arith, below, long))))))

-- None of them gets the rest.
none_rest_by : (b : Bool) (k : ℕ) (e : GPTPartitionEntry) (asked : List Asked) (j : ℕ) → ((ps : List ResolvedPartition) → ¬ IsAmong j (rest_numbers asked ps))
    → (ps : List ResolvedPartition) → ¬ IsAmong j (rest_numbers (if_used b k e asked) ps)
none_rest_by false k e asked j rest ps among = rest ps among
none_rest_by true k e asked j rest [] among = among
none_rest_by true k e asked j rest (p ∷ ps) among = rest ps among

none_rest : (k : ℕ) (es : List GPTPartitionEntry) (j : ℕ) (ps : List ResolvedPartition) → ¬ IsAmong j (rest_numbers (asked_of_all (enumerate_from k es)) ps)
none_rest k [] j ps among = among
none_rest k (e ∷ es) j ps among = none_rest_by (is_used e) k e (asked_of_all (enumerate_from (k + 1) es)) j (none_rest (k + 1) es j) ps among

-- ---- the whole table

module _ (g next : GPT) (layout : RequestedLayout) (randoms : List (List ℕ)) (is : IsLayoutOf g layout) (enough : length layout.asked.items ≤ length randoms)
    (applied : IsApplied layout randoms g next) where
  own_asked : resolved_all g (Become false) (asked_of_all (enumerate_from 1 (entries_in g))) randoms ≡ Ok applied.partitions
  own_asked =
      subst (λ (mode : Mode). resolved_all g mode (asked_of_all (enumerate_from 1 (entries_in g))) randoms ≡ Ok applied.partitions) is.mode
      (subst (λ (asked : List Asked). resolved_all g layout.mode asked randoms ≡ Ok applied.partitions) is.asked applied.asked)

  owned : OwnedBy g applied.partitions × CoversFrom applied.partitions 1 (entries_in g)
  owned = all_own g 1 (entries_in g) randoms applied.partitions (omega arith) (has_all g)
      (subst (λ (asked : List Asked). length asked ≤ length randoms) is.asked enough) own_asked

  each_used : (m : ℕ) → is_used (entry_at g (suc m)) ≡ true → entry_at next (suc m) ≡ entry_at g (suc m)
  each_used m used =
      let none : ¬ IsAmong (suc m) (rest_numbers layout.asked.items applied.partitions) =
      subst (λ (asked : List Asked). ¬ IsAmong (suc m) (rest_numbers asked applied.partitions)) (sym is.asked) (none_rest 1 (entries_in g) (suc m) applied.partitions) in
      last_exact layout randoms g next applied (suc m) (omega arith) none
      ∙ own_there g applied.free applied.placed (suc m) applied.partitions owned.0 (placed_there layout randoms g next applied) (used_named g applied.partitions m owned.1 used)

  each_unused : (m : ℕ) → is_used (entry_at g (suc m)) ≡ false → entry_at next (suc m) ≡ entry_at g (suc m)
  each_unused m unused =
      let kept : All (λ (j : ℕ). j ≢ suc m) layout.removed.items = subst (λ (js : List ℕ). All (λ (j : ℕ). j ≢ suc m) js) (sym is.removed) (λ k d below. absurd (omega (arith, below))) in
      let stays = other_stays layout randoms g next applied (suc m) (omega arith) (own_unnamed g (suc m) applied.partitions owned.0 unused) kept in
      (subst (λ (mode : Mode). StaysAs mode (entry_at g (suc m)) (entry_at next (suc m))) is.mode stays).0

  each_by : (m : ℕ) (b : Bool) → is_used (entry_at g (suc m)) ≡ b → entry_at next (suc m) ≡ entry_at g (suc m)
  each_by m true used = each_used m used
  each_by m false unused = each_unused m unused

  pub same_entries : entries_in next ≡ entries_in g
  same_entries = equal_entries g next (done_keeps (Apply layout) randoms g next applied).long (λ k. each_by k (is_used (entry_at g (suc k))) refl)

  same_guid : next.header.disk_guid ≡ g.header.disk_guid
  same_guid =
      ap (λ (m : GPT). m.header.disk_guid) applied.next_is ∙ ap (λ (guid : Option (List ℕ)). unwrap_or guid applied.last.header.disk_guid) is.disk_guid

  same_table : table_in next ≡ table_in g
  same_table =
      ap (λ (h : GPTHeader). table_of h (entries_in next)) (done_keeps (Apply layout) randoms g next applied).header
      ∙ (λ i. table_of (record g.header { disk_guid = same_guid i }) (same_entries i))

pub give_table : LayoutsGiveTable
give_table g next layout randoms is enough applied = same_table g next layout randoms is enough applied
