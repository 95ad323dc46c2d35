-- A request for the rest lengthens a used entry to the furthest end.
use Prim.Native.Nat.{◌∣◌}
use Rattle.std.proofs.Common.{◌≡◌, ◌≤◌, ◌<◌, ◌⊎◌, inl, inr, ℕ, ◌+◌, ◌-◌, List, [], ◌∷◌, refl, sym, ap, ◌∙◌, subst, arith, zero, suc, IsTrue, Bool, true, false, length}
use Rattle.std.specs.Prelude.{Option, Some, None, Result, Ok, Err, Contains, get_or, nat_eq, if◌then◌else◌}
use Rattle.std.proofs.lemmas.Bool.{eq-eqb}
use Rattle.std.proofs.lemmas.List.{get_or_default, length-set}
use Rattle.gptman.specs.Coding.{empty_entry}
use Rattle.gptman.specs.Entry.{covers, is_unused, is_used}
use Rattle.gptman.specs.Number.{entry_at, entry_of_number, with_entry, IsNumber}
use Rattle.gptman.specs.Place.{IsFreeIn, IsUsable}
use Rattle.gptman.specs.Table.{entries_in}
use Rattle.gptman.specs.declared.codec.entry.GPTPartitionEntry.{GPTPartitionEntry}
use Rattle.gptman.specs.declared.codec.header.GPTHeader.{GPTHeader}
use Rattle.gptman.specs.declared.table.GPT.{GPT}
use Rattle.gptedit_core.specs.Applying.{asks_rest, rest_numbers, ArePut, IsApplied, IsPut}
use Rattle.gptedit_core.specs.Named.{BeginsThere, IsAmong, IsLengthened, LayoutsOnlyLengthen}
use Rattle.gptedit_core.specs.Placing.{AreFreeBehind, IsSpan}
use Rattle.gptedit_core.specs.Resolving.{and_then, entry_asked, number_asked, partition_at, place_asked, place_of, resolved, resolved_all, room_asked, start_asked, stay_fault, there_of, unless, use_fault, used_at}
use Rattle.gptedit_core.specs.Sectors.{between}
use Rattle.gptedit_core.specs.declared.asked.Asked.{Asked}
use Rattle.gptedit_core.specs.declared.asked.RequestedLayout.{RequestedLayout}
use Rattle.gptedit_core.specs.declared.asked.Mode.{Mode}
use Rattle.gptedit_core.specs.declared.asked.Mode.TheVariants.{Change}
use Rattle.gptedit_core.specs.declared.asked.Size.{Size}
use Rattle.gptedit_core.specs.declared.asked.Size.TheVariants.{Rest}
use Rattle.gptedit_core.specs.declared.amount.Amount.{Amount}
use Rattle.gptedit_core.specs.declared.place.Place.{Place}
use Rattle.gptedit_core.specs.declared.place.Place.TheVariants.{At}
use Rattle.gptedit_core.specs.declared.refusal.Refusal.{Refusal}
use Rattle.gptedit_core.specs.declared.refusal.Refusal.TheVariants.{NoType}
use Rattle.gptedit_core.specs.declared.resolve.ResolvedPartition.{ResolvedPartition}
use Rattle.gptedit_core.specs.declared.resolve.Room.{Room}
use Rattle.gptedit_core.specs.declared.resolve.Room.TheVariants.{Rest as RoomRest}
use Rattle.gptedit_core.specs.declared.sectors.SectorRange.{SectorRange}
use Rattle.gptedit_core.proofs.Again.{given, of_by}
use Rattle.gptedit_core.proofs.Requested.{unless_ok}
use Rattle.gptedit_core.proofs.Dumped.{at_number, used_is}
use Rattle.gptedit_core.proofs.Applied.{stay, this_entry}
use Rattle.gptedit_core.proofs.Extended.{extended_same}
use Rattle.gptedit_core.proofs.Placed.{last_longer}
use Rattle.gptedit_core.proofs.Resolved.{resolved_used}
use Rattle.gptedit_core.proofs.Same.{put_same}
use Rattle.gptedit_core.proofs.Steps.{and_then_ok, else_ok}

-- ---- the request

used_by : (used : Option GPTPartitionEntry) (i j : ℕ) → unless (use_fault Change i used) i ≡ Ok j → (e : GPTPartitionEntry) × (used ≡ Some e)
used_by None i j is = absurd (cc)
used_by (Some e) i j is = (e, refl)

if_found : (b : Bool) (x e : GPTPartitionEntry) → ◌≡◌ {A = Option GPTPartitionEntry} (if b then Some x else None) (Some e) → x ≡ e
if_found true x e is = cc
if_found false x e is = absurd (cc)

found_by : (o : Option GPTPartitionEntry) (e : GPTPartitionEntry)
    → ◌≡◌ {A = Option GPTPartitionEntry} (elim o [ None ↦ None | Some x ↦ if is_used x then Some x else None ]) (Some e) → o ≡ Some e
found_by None e is = absurd (cc)
found_by (Some x) e is = ap Some (if_found (is_used x) x e is)

-- A changed entry is used.
used_there : (g : GPT) (mode : Mode) (i j : ℕ) (here : GPTPartitionEntry) → (mode ≡ Change) ⊎ IsTrue (is_used (entry_at g i)) → entry_of_number g i ≡ Some here → entry_at g i ≡ here
    → unless (use_fault mode i (used_at g i)) i ≡ Ok j → used_at g i ≡ Some (entry_at g i)
used_there g mode i j here (inl change) found at is =
    let used = used_by (used_at g i) i j (subst (λ (m : Mode). unless (use_fault m i (used_at g i)) i ≡ Ok j) change is) in
    let there : entry_of_number g i ≡ Some used.0 = found_by (entry_of_number g i) used.0 used.1 in
    let both : Some used.0 ≡ Some here = sym there ∙ found in
    let same : used.0 ≡ here = cc in
    used.1 ∙ ap Some (same ∙ sym at)
used_there g mode i j here (inr used) found at is = used_is g i (entry_at g i) (found ∙ ap Some (sym at)) used

-- The place is that of the entry if it starts there.
rest_place : (a : Asked) (i ss : ℕ) (e : GPTPartitionEntry) (start : Option ℕ) (room : Option Room) → a.size ≡ Some Rest → BeginsThere a ss e → start_asked a.start ss ≡ Ok start
    → room_asked a.size i ss ≡ Ok room → place_of i room start (there_of (Some e)) a.choice ≡ Ok (At e.starting_lba e.ending_lba)
rest_place a i ss e start room size begins start_is room_is =
    let wanted : room_asked a.size i ss ≡ Ok (Some RoomRest) = ap (λ (s : Option Size). room_asked s i ss) size in
    let both : Ok (Some RoomRest) ≡ Ok room = sym wanted ∙ room_is in
    let same : Some RoomRest ≡ room = cc in
    subst (λ (r : Option Room). place_of i r start (there_of (Some e)) a.choice ≡ Ok (At e.starting_lba e.ending_lba)) same
    (elim begins [
      | inl none ↦
          let first : start_asked a.start ss ≡ Ok None = ap (λ (s : Option Amount). start_asked s ss) none in
          let both : ◌≡◌ {A = Result (Option ℕ) Refusal} (Ok None) (Ok start) = sym first ∙ start_is in
          let same : None ≡ start = cc in
          subst (λ (s : Option ℕ). place_of i (Some RoomRest) s (there_of (Some e)) a.choice ≡ Ok (At e.starting_lba e.ending_lba)) same refl
      | inr given ↦
          let both : Ok (Some e.starting_lba) ≡ Ok start = sym given ∙ start_is in
          let same : Some e.starting_lba ≡ start = cc in
          let first : nat_eq e.starting_lba e.starting_lba ≡ true = eq-eqb e.starting_lba e.starting_lba refl in
          subst (λ (s : Option ℕ). place_of i (Some RoomRest) s (there_of (Some e)) a.choice ≡ Ok (At e.starting_lba e.ending_lba)) same (rw first refl)
    ])

place_rest : (mode : Mode) (a : Asked) (i ss : ℕ) (e : GPTPartitionEntry) (place : Place) → a.size ≡ Some Rest → BeginsThere a ss e → place_asked mode a i (Some e) ss ≡ Ok place
    → place ≡ At e.starting_lba e.ending_lba
place_rest mode a i ss e place size begins is =
    let start = and_then_ok (start_asked a.start ss) _ place is in
    let room = and_then_ok (room_asked a.size i ss) _ place start.2 in
    let at = and_then_ok (place_of i room.0 start.0 (there_of (Some e)) a.choice) _ place room.2 in
    let stay = unless_ok (stay_fault mode i (there_of (Some e)) at.0) at.0 place at.2 in
    let both : Ok at.0 ≡ Ok (At e.starting_lba e.ending_lba) = sym at.1 ∙ rest_place a i ss e start.0 room.0 size begins start.1 room.1 in
    let same : at.0 ≡ At e.starting_lba e.ending_lba = cc in
    sym stay.1 ∙ same

record IsAskedThere (g : GPT) (i : ℕ) (p : ResolvedPartition) : Type 0 where
  number : p.number ≡ i
  low : 1 ≤ i
  place : p.place ≡ At (entry_at g i).starting_lba (entry_at g i).ending_lba

asked_there : (g : GPT) (mode : Mode) (a : Asked) (random : List ℕ) (i : ℕ) (p : ResolvedPartition) → (mode ≡ Change) ⊎ IsTrue (is_used (entry_at g i)) → a.number ≡ Some i
    → a.size ≡ Some Rest → BeginsThere a g.sector_size (entry_at g i) → resolved g mode a random ≡ Ok p → IsAskedThere g i p
asked_there g mode a random i p used_or number_is size begins is =
    let number = and_then_ok (number_asked g a) (partition_at g mode a random) p is in
    let here = given g a i number.0 number_is number.1 in
    let part : partition_at g mode a random i ≡ Ok p = subst (λ (n : ℕ). partition_at g mode a random n ≡ Ok p) (sym here.0) number.2 in
    let used = used_at g i in
    let e : GPTPartitionEntry = entry_asked a used random in
    let last : Place → Result ResolvedPartition Refusal = λ place. if is_unused e then Err (NoType i) else Ok (record { number = i; entry = e; place = place }) in
    let use_of = and_then_ok (unless (use_fault mode i used) i) (λ (j : ℕ). and_then (place_asked mode a i used g.sector_size) last) p part in
    let place = and_then_ok (place_asked mode a i used g.sector_size) last p use_of.2 in
    let end = else_ok (is_unused e) (NoType i) (record { number = i; entry = e; place = place.0 }) p place.2 in
    let at = of_by g i here.1.0 _ refl here.1.1 in
    let is_there : used ≡ Some (entry_at g i) = used_there g mode i use_of.0 here.1.0 used_or here.1.1 at.1 use_of.1 in
    let is_place : place_asked mode a i (Some (entry_at g i)) g.sector_size ≡ Ok place.0 =
    subst (λ (u : Option GPTPartitionEntry). place_asked mode a i u g.sector_size ≡ Ok place.0) is_there place.1 in
    record {
      number = sym (ap (λ (q : ResolvedPartition). q.number) end.1);
      low = at.0;
      place = sym (ap (λ (q : ResolvedPartition). q.place) end.1) ∙ place_rest mode a i g.sector_size (entry_at g i) place.0 size begins is_place;
    }

-- ---- the step that puts the entry

record IsStep (g : GPT) (mode : Mode) (a : Asked) (asked : List Asked) (ps : List ResolvedPartition) (free last : GPT) : Type 0 where
  random : List ℕ
  p : ResolvedPartition
  is_asked : resolved g mode a random ≡ Ok p
  among : asks_rest a.size ≡ true → IsAmong p.number (rest_numbers asked ps)
  first : List ResolvedPartition
  before : GPT
  earlier : ArePut first free before
  mid : GPT
  put : IsPut p before mid
  rest : List ResolvedPartition
  later : ArePut rest mid last

among_more : (j k : ℕ) (b : Bool) (numbers : List ℕ) → IsAmong j numbers → IsAmong j (if b then k ∷ numbers else numbers)
among_more j k true numbers among = inr among
among_more j k false numbers among = among

among_first : (k : ℕ) (b : Bool) (numbers : List ℕ) → b ≡ true → IsAmong k (if b then k ∷ numbers else numbers)
among_first k true numbers is = inl refl
among_first k false numbers is = absurd (cc)

find_step : (g : GPT) (mode : Mode) (asked : List Asked) (randoms : List (List ℕ)) (ps : List ResolvedPartition) (free last : GPT) (k : ℕ) (a : Asked)
    → k < length asked → get_or asked k a ≡ a → length asked ≤ length randoms → resolved_all g mode asked randoms ≡ Ok ps → ArePut ps free last → IsStep g mode a asked ps free last
find_step g mode [] randoms ps free last k a below is long all put = absurd (omega (arith, below))
find_step g mode (b ∷ asked) [] ps free last k a below is long all put = absurd (omega (arith, long))
find_step g mode (b ∷ asked) (random ∷ randoms) ps free last zero a below is long all put =
    let p = and_then_ok (resolved g mode b random) _ ps all in
    let rest = and_then_ok (resolved_all g mode asked randoms) _ ps p.2 in
    let whole : p.0 ∷ rest.0 ≡ ps = cc in
    let puts : ArePut (p.0 ∷ rest.0) free last = subst (λ (xs : List ResolvedPartition). ArePut xs free last) (sym whole) put in
    let step : IsStep g mode b (b ∷ asked) (p.0 ∷ rest.0) free last = record {
      random = random;
      p = p.0;
      is_asked = p.1;
      among = among_first p.0.number (asks_rest b.size) (rest_numbers asked rest.0);
      first = [];
      before = free;
      earlier = refl;
      mid = puts.0;
      put = puts.1;
      rest = rest.0;
      later = puts.2;
    } in
    subst (λ (c : Asked). IsStep g mode c (b ∷ asked) ps free last) is (subst (λ (qs : List ResolvedPartition). IsStep g mode b (b ∷ asked) qs free last) whole step)
find_step g mode (b ∷ asked) (random ∷ randoms) ps free last (suc k) a below is long all put =
    let p = and_then_ok (resolved g mode b random) _ ps all in
    let rest = and_then_ok (resolved_all g mode asked randoms) _ ps p.2 in
    let whole : p.0 ∷ rest.0 ≡ ps = cc in
    let puts : ArePut (p.0 ∷ rest.0) free last = subst (λ (xs : List ResolvedPartition). ArePut xs free last) (sym whole) put in
    let step = find_step g mode asked randoms rest.0 puts.0 last k a (omega (arith, below)) is (omega (arith, long)) rest.1 puts.2 in
    subst (λ (qs : List ResolvedPartition). IsStep g mode a (b ∷ asked) qs free last) whole (record {
      random = step.random;
      p = step.p;
      is_asked = step.is_asked;
      among = λ gets. among_more step.p.number p.0.number (asks_rest b.size) (rest_numbers asked rest.0) (step.among gets);
      first = p.0 ∷ step.first;
      before = step.before;
      earlier = (puts.0, puts.1, step.earlier);
      mid = step.mid;
      put = step.put;
      rest = step.rest;
      later = step.later;
    })

-- ---- the free sectors of the resulting table

used_of_covers : (x : ℕ) (e : GPTPartitionEntry) (b : Bool) → is_unused e ≡ b → IsTrue (covers x e) → b ≡ false
used_of_covers x e false is covered = refl
used_of_covers x e true is covered = absurd (cc)

-- A free sector was free before partitions were put.
free_earlier : (ps : List ResolvedPartition) (g last : GPT) → ArePut ps g last → (x : ℕ) → IsFreeIn last x → IsFreeIn g x
free_earlier ps g last put x free =
    let header : last.header ≡ g.header = put_same (λ (m : GPT). m.header) (λ m j e. refl) ps g last put in
    let long : length (entries_in last) ≡ length (entries_in g) = put_same (λ (m : GPT). length (entries_in m)) (λ m j e. length-set (entries_in m) (j - 1) e) ps g last put in
    record {
      usable = subst (λ (h : GPTHeader). IsUsable h x) header free.usable;
      uncovered = λ k d below. λ covered.
          let here : IsTrue (covers x (entry_at g (suc k))) =
          subst (λ (e : GPTPartitionEntry). IsTrue (covers x e)) (get_or_default (entries_in g) k d empty_entry below ∙ sym (at_number g k (suc k) (omega arith))) covered in
          let used : ¬ IsTrue (is_unused (entry_at g (suc k))) = λ unused. let no = used_of_covers x (entry_at g (suc k)) (is_unused (entry_at g (suc k))) refl here in absurd (cc) in
          let kept : entry_at last (suc k) ≡ entry_at g (suc k) = stay ps g last (suc k) put (omega arith) used in
          free.uncovered k empty_entry (omega (arith, below, long)) (subst (λ (e : GPTPartitionEntry). IsTrue (covers x e)) (sym kept ∙ at_number last k (suc k) (omega arith)) here);
    }

-- ---- the law

module _ (layout : RequestedLayout) (randoms : List (List ℕ)) (g next : GPT) (a : Asked) (i : ℕ) (used : (layout.mode ≡ Change) ⊎ IsTrue (is_used (entry_at g i)))
    (long : length layout.asked.items ≤ length randoms) (has : Contains layout.asked.items a) (number : a.number ≡ Some i) (size : a.size ≡ Some Rest)
    (begins : BeginsThere a g.sector_size (entry_at g i)) (is : IsApplied layout randoms g next) where
  step : IsStep g layout.mode a layout.asked.items is.partitions is.free is.placed
  step = find_step g layout.mode layout.asked.items randoms is.partitions is.free is.placed has.0 a has.1 has.2 long is.asked is.put

  there : IsAskedThere g i step.p
  there = asked_there g layout.mode a step.random i step.p used number size begins step.is_asked

  span : step.put.range ≡ between (entry_at g i).starting_lba (entry_at g i).ending_lba
  span = subst (λ (place : Place). IsSpan place step.before step.put.range) there.place step.put.span

  -- The entry when all were put.
  put_entry : entry_at is.placed i ≡ record step.p.entry { starting_lba = step.put.range.first; ending_lba = step.put.range.last }
  put_entry =
      let p = step.p in
      let e : GPTPartitionEntry = record p.entry { starting_lba = step.put.range.first; ending_lba = step.put.range.last } in
      let here : entry_at step.mid p.number ≡ e = subst (λ (m : GPT). entry_at m p.number ≡ e) (sym step.put.next_is) (this_entry step.before p.number e step.put.number) in
      let used : ¬ IsTrue (is_unused e) = resolved_used g layout.mode a step.random p step.is_asked in
      let still = stay step.rest step.mid is.placed p.number step.later step.put.number.0 (λ unused. used (subst (λ (x : GPTPartitionEntry). IsTrue (is_unused x)) here unused)) in
      subst (λ (n : ℕ). entry_at is.placed n ≡ e) there.number (still ∙ here)

  first : (entry_at is.placed i).starting_lba ≡ (entry_at g i).starting_lba
  first = ap (λ (e : GPTPartitionEntry). e.starting_lba) put_entry ∙ ap (λ (s : SectorRange). s.first) span

  last : (entry_at is.placed i).ending_lba ≡ (entry_at g i).ending_lba
  last = ap (λ (e : GPTPartitionEntry). e.ending_lba) put_entry ∙ ap (λ (s : SectorRange). s.last) span

  among : IsAmong i (rest_numbers layout.asked.items is.partitions)
  among = subst (λ (n : ℕ). IsAmong n (rest_numbers layout.asked.items is.partitions)) there.number (step.among (ap asks_rest size))

  in_table : IsNumber next i
  in_table =
      let long_before : length (entries_in step.before) ≡ length (entries_in is.free) =
      put_same (λ (m : GPT). length (entries_in m)) (λ m j e. length-set (entries_in m) (j - 1) e) step.first is.free step.before step.earlier in
      let long_placed : length (entries_in is.placed) ≡ length (entries_in is.free) =
      put_same (λ (m : GPT). length (entries_in m)) (λ m j e. length-set (entries_in m) (j - 1) e) is.partitions is.free is.placed is.put in
      let long_last : length (entries_in is.last) ≡ length (entries_in is.placed) =
      extended_same (λ (m : GPT). length (entries_in m)) (λ m j e. length-set (entries_in m) (j - 1) e) (rest_numbers layout.asked.items is.partitions) is.placed is.last is.extended in
      let long_next : length (entries_in next) ≡ length (entries_in is.last) = ap (λ (m : GPT). length (entries_in m)) is.next_is in
      let high : i ≤ length (entries_in step.before) = subst (λ (n : ℕ). n ≤ length (entries_in step.before)) there.number step.put.number.1 in
      (there.low, omega (arith, high, long_before, long_placed, long_last, long_next))

  longer : IsLengthened is.align (entry_at is.placed i) (entry_at next i) (IsFreeIn is.placed) (IsFreeIn (with_entry next i empty_entry))
  longer = last_longer layout randoms g next is i in_table among

  reached : ((entry_at next i).ending_lba ≡ (entry_at is.placed i).ending_lba)
      ⊎ (((entry_at is.placed i).starting_lba ≤ (entry_at is.placed i).ending_lba) × (is.align ∣ (entry_at next i).ending_lba + 1)
      × AreFreeBehind (IsFreeIn is.placed) (entry_at is.placed i).ending_lba (entry_at next i).ending_lba)
      → ((entry_at next i).ending_lba ≡ (entry_at g i).ending_lba)
      ⊎ (((entry_at g i).starting_lba ≤ (entry_at g i).ending_lba) × (is.align ∣ (entry_at next i).ending_lba + 1)
      × AreFreeBehind (IsFreeIn is.free) (entry_at g i).ending_lba (entry_at next i).ending_lba)
  reached (inl same) = inl (same ∙ last)
  reached (inr to) = inr (
    omega (arith, first, last, to.0),
    to.1,
    λ x above within. free_earlier is.partitions is.free is.placed is.put x (to.2 x (omega (arith, last, above)) within),
  )

  lengthened : IsLengthened is.align (entry_at g i) (entry_at next i) (IsFreeIn is.free) (IsFreeIn (with_entry next i empty_entry))
  lengthened =
      let kept = longer.end in
      record {
        start = longer.start ∙ first;
        end = omega (arith, kept, last);
        reached = reached longer.reached;
        furthest = λ ordered e multiple above.
            let blocked = longer.furthest (omega (arith, first, last, ordered)) e multiple above in
            (blocked.0, omega (arith, last, blocked.1), blocked.2, blocked.3);
      }

pub only_lengthen : LayoutsOnlyLengthen
only_lengthen layout randoms g next a i used long has number size begins is = lengthened layout randoms g next a i used long has number size begins is
