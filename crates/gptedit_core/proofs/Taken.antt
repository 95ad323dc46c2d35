-- The layout of a table is not refused for that table.
use Rattle.std.proofs.Common.{◌≡◌, ◌≢◌, ◌≤◌, ◌<◌, ◌⊎◌, inl, inr, ℕ, ◌+◌, ◌-◌, ◌^◌, List, [], ◌∷◌, refl, sym, ap, ◌∙◌, subst, arith, suc, IsTrue, Bool, true, false, length}
use Rattle.std.specs.Prelude.{Option, Some, None, Result, Ok, Err, All, get_or, nat_eq, not, if◌then◌else◌}
use Rattle.std.specs.List.{enumerate_from}
use Rattle.std.proofs.lemmas.Bool.{eq-eqb, le-leb, lt-ltb, ne_eqb, not-false}
use Rattle.std.proofs.lemmas.List.{length-set}
use Rattle.gptman.specs.Coding.{empty_entry}
use Rattle.gptman.specs.Entry.{is_unused, is_used}
use Rattle.gptman.specs.Layout.{HasLayout}
use Rattle.gptman.specs.Number.{entry_at, entry_of_number, with_entry, IsNumber}
use Rattle.gptman.specs.Table.{entries_in}
use Rattle.gptman.specs.Valid.{HasGoodBoundaries, HasOwnGuids, IsValid}
use Rattle.gptman.specs.declared.codec.entry.GPTPartitionEntry.{GPTPartitionEntry}
use Rattle.gptman.specs.declared.codec.header.GPTHeader.{GPTHeader}
use Rattle.gptman.specs.declared.table.GPT.{GPT}
use Rattle.gptedit_core.specs.Dumping.{asked_of, asked_of_all, more_sectors, IsLayoutOf}
use Rattle.gptedit_core.specs.Applying.{align_asked, cleared, others_fault, others_fault_of, removed_all, IsApplied, IsPut, RefusesAsked, RefusesPut, RefusesPutting}
use Rattle.gptedit_core.specs.Applying.RefusesAsked.{no_align, not_asked, not_cleared, not_put, not_removed, others_there}
use Rattle.gptedit_core.specs.Applying.RefusesPut.{no_entry, no_room, twice}
use Rattle.gptedit_core.specs.Named.{IsUnnamed, LayoutsAreTaken}
use Rattle.gptedit_core.specs.Placing.{HasNoRoom}
use Rattle.gptedit_core.specs.Planning.{IsDone, RefusesCheck, RefusesJob}
use Rattle.gptedit_core.specs.Planning.RefusesCheck.{boundaries, shared}
use Rattle.gptedit_core.specs.Planning.RefusesRequest.{not_done, not_laid_out, not_written}
use Rattle.gptedit_core.specs.Resolving.{and_then, first_numbered, number_asked, partition_at, place_asked, place_of, resolved, resolved_all, room_asked, span_from, stay_fault, unless}
use Rattle.gptedit_core.specs.Sectors.{between}
use Rattle.gptedit_core.specs.declared.amount.Amount.{Amount}
use Rattle.gptedit_core.specs.declared.amount.Amount.TheVariants.{Sectors}
use Rattle.gptedit_core.specs.declared.asked.Asked.{Asked}
use Rattle.gptedit_core.specs.declared.asked.Choice.TheVariants.{First}
use Rattle.gptedit_core.specs.declared.asked.RequestedLayout.{RequestedLayout}
use Rattle.gptedit_core.specs.declared.asked.Mode.{Mode}
use Rattle.gptedit_core.specs.declared.asked.Mode.TheVariants.{Become}
use Rattle.gptedit_core.specs.declared.asked.Size.TheVariants.{Exactly}
use Rattle.gptedit_core.specs.declared.place.Place.{Place}
use Rattle.gptedit_core.specs.declared.place.Place.TheVariants.{At}
use Rattle.gptedit_core.specs.declared.plan.Job.{Job}
use Rattle.gptedit_core.specs.declared.plan.Job.TheVariants.{Apply}
use Rattle.gptedit_core.specs.declared.refusal.Refusal.{Refusal}
use Rattle.gptedit_core.specs.declared.refusal.Refusal.TheVariants.{NoAlignment, NoEntry, NoSize, NoType, TooLarge}
use Rattle.gptedit_core.specs.declared.resolve.ResolvedPartition.{ResolvedPartition}
use Rattle.gptedit_core.specs.declared.resolve.Room.{Room}
use Rattle.gptedit_core.specs.declared.resolve.Room.TheVariants.{Sectors as RoomSectors}
use Rattle.gptedit_core.proofs.Exact.{unnamed_more}
use Rattle.gptedit_core.proofs.Again.{named_or}
use Rattle.gptedit_core.proofs.Dumped.{all_own, at_number, has_all, if_used, of_number, own_unnamed, same_entries, used_below, used_is, used_named, with_used, CoversFrom, HasFrom, HasNumber, IsOwn, OwnedBy}
use Rattle.gptedit_core.proofs.Kept.{all_cleared_keep, done_keeps}
use Rattle.gptedit_core.proofs.Applied.{cleared_keep, put_other, this_entry}
use Rattle.gptedit_core.proofs.Placed.{DifferInNumber}
use Rattle.gptedit_core.proofs.Resolved.{resolved_more}

-- ---- one entry that is requested unchanged

-- A used entry has its first and last sector in order and within 64 bits.
abbrev pub IsPlaced : GPTPartitionEntry → Type 0
IsPlaced e = IsTrue (is_used e) → (e.starting_lba ≤ e.ending_lba) × (e.ending_lba + 1 < 2 ^ 64)

-- The partition that an entry is.
abbrev pub own_partition : ℕ → GPTPartitionEntry → ResolvedPartition
own_partition i e = record { number = i; entry = e; place = At e.starting_lba e.ending_lba }

-- It requests the number of sectors of the entry,
more_is : (first last : ℕ) → first ≤ last → last + 1 < 2 ^ 64 → more_sectors first last ≡ last - first + 1
more_is first last low high = rw (le-leb first last low, lt-ltb (last - first) (2 ^ 64 - 1) (omega arith)) refl

room_of : (i n : ℕ) → n ≢ 0 → ◌≡◌ {A = Result (Option Room) Refusal} (if nat_eq n 0 then Err (NoSize i) else Ok (Some (RoomSectors n))) (Ok (Some (RoomSectors n)))
room_of i n some =
    subst (λ (b : Bool). ◌≡◌ {A = Result (Option Room) Refusal} (if b then Err (NoSize i) else Ok (Some (RoomSectors n))) (Ok (Some (RoomSectors n)))) (sym (ne_eqb n 0 some)) refl

room_own : (i ss first last : ℕ) → first ≤ last → last + 1 < 2 ^ 64
    → room_asked (Some (Exactly (Sectors (more_sectors first last)))) i ss ≡ Ok (Some (RoomSectors (last - first + 1)))
room_own i ss first last low high =
    ap (λ (n : ℕ). room_asked (Some (Exactly (Sectors n))) i ss) (more_is first last low high) ∙ room_of i (last - first + 1) (λ none. omega (arith, none))

-- which end where it ends,
pub span_to : (i first more last : ℕ) → first + more ≡ last → last < 2 ^ 64 → span_from i first more ≡ Ok (At first last)
span_to i first more last whole high =
    subst (λ (n : ℕ). span_from i first more ≡ Ok (At first n)) whole
    (subst (λ (b : Bool). ◌≡◌ {A = Result Place Refusal} (if b then Ok (At first (first + more)) else Err (TooLarge i)) (Ok (At first (first + more))))
    (sym (lt-ltb (first + more) (2 ^ 64) (omega (arith, whole, high)))) refl)

-- so the place is unchanged.
pub stays : (i first last : ℕ) → stay_fault (Become false) i (Some (between first last)) (At first last) ≡ None
stays i first last = rw (eq-eqb first first refl, le-leb last last (omega arith)) refl

place_own : (i ss : ℕ) (e : GPTPartitionEntry) → e.starting_lba ≤ e.ending_lba → e.ending_lba + 1 < 2 ^ 64
    → place_asked (Become false) (asked_of i e) i (Some e) ss ≡ Ok (At e.starting_lba e.ending_lba)
place_own i ss e low high =
    let first : ℕ = e.starting_lba in
    let last : ℕ = e.ending_lba in
    let stay : Place → Result Place Refusal = λ place. unless (stay_fault (Become false) i (Some (between first last)) place) place in
    let at : Option Room → Result Place Refusal = λ room. and_then (place_of i room (Some first) (Some (between first last)) First) stay in
    ap (λ (room : Result (Option Room) Refusal). and_then room at) (room_own i ss first last low high)
    ∙ (ap (λ (place : Result Place Refusal). and_then place stay) (span_to i first (last - first + 1 - 1) last (omega (arith, low)) (omega (arith, high)))
    ∙ ap (λ (o : Option Refusal). unless o (At first last)) (stays i first last))

-- It has a type, so the request is resolved to it.
pub has_type : (b : Bool) (i : ℕ) (p : ResolvedPartition) → IsTrue (not b) → ◌≡◌ {A = Result ResolvedPartition Refusal} (if b then Err (NoType i) else Ok p) (Ok p)
has_type true i p used = absurd (cc)
has_type false i p used = refl

part_own : (g : GPT) (i : ℕ) (e : GPTPartitionEntry) (random : List ℕ) → IsTrue (is_used e) → IsPlaced e
    → with_used g (asked_of i e) random i (Some e) ≡ Ok (own_partition i e)
part_own g i e random used placed =
    let whole : Place → Result ResolvedPartition Refusal = λ place. if is_unused e then Err (NoType i) else Ok (record { number = i; entry = e; place = place }) in
    ap (λ (place : Result Place Refusal). and_then place whole) (place_own i g.sector_size e (placed used).0 (placed used).1)
    ∙ has_type (is_unused e) i (own_partition i e) used

resolved_own : (g : GPT) (i : ℕ) (e : GPTPartitionEntry) (random : List ℕ) → entry_of_number g i ≡ Some e → IsTrue (is_used e) → IsPlaced e
    → resolved g (Become false) (asked_of i e) random ≡ Ok (own_partition i e)
resolved_own g i e random found used placed =
    let a : Asked = asked_of i e in
    let here : number_asked g a ≡ Ok i =
    subst (λ (o : Option GPTPartitionEntry). ◌≡◌ {A = Result ℕ Refusal} (elim o [ None ↦ Err (NoEntry i) | Some x ↦ Ok i ]) (Ok i)) (sym found) refl in
    ap (λ (n : Result ℕ Refusal). and_then n (partition_at g (Become false) a random)) here
    ∙ (ap (with_used g a random i) (used_is g i e found used) ∙ part_own g i e random used placed)

-- ---- all entries

-- The partitions of the used entries from number k on.
abbrev part_if_used : Bool → ℕ → GPTPartitionEntry → List ResolvedPartition → List ResolvedPartition
part_if_used b k e ps = if b then own_partition k e ∷ ps else ps

abbrev own_partitions : ℕ → List GPTPartitionEntry → List ResolvedPartition
own_partitions k [] = []
own_partitions k (e ∷ es) = part_if_used (is_used e) k e (own_partitions (k + 1) es)

-- The requests are resolved to these.
abbrev Resolves : GPT → List Asked → List ResolvedPartition → Type 0
Resolves g asked ps = (randoms : List (List ℕ)) → length asked ≤ length randoms → resolved_all g (Become false) asked randoms ≡ Ok ps

resolves_more : (g : GPT) (b : Bool) (k : ℕ) (e : GPTPartitionEntry) (asked : List Asked) (ps : List ResolvedPartition) → is_used e ≡ b → entry_of_number g k ≡ Some e
    → IsPlaced e → Resolves g asked ps → Resolves g (if_used b k e asked) (part_if_used b k e ps)
resolves_more g false k e asked ps is found placed rest randoms enough = rest randoms enough
resolves_more g true k e asked ps is found placed rest [] enough = absurd (omega (arith, enough))
resolves_more g true k e asked ps is found placed rest (random ∷ randoms) enough =
    resolved_more g (Become false) (asked_of k e) random asked randoms (own_partition k e) ps (resolved_own g k e random found is placed) (rest randoms (omega (arith, enough)))

resolves_all : (g : GPT) (k : ℕ) (es : List GPTPartitionEntry) → HasFrom g k es → All IsPlaced es → Resolves g (asked_of_all (enumerate_from k es)) (own_partitions k es)
resolves_all g k [] has placed = λ randoms enough. refl
resolves_all g k (e ∷ es) has placed =
    resolves_more g (is_used e) k e (asked_of_all (enumerate_from (k + 1) es)) (own_partitions (k + 1) es) refl has.0 (placed 0 e (omega arith))
    (resolves_all g (k + 1) es has.2 (λ m d below. placed (suc m) d (omega (arith, below))))

above_more : (j k : ℕ) (b : Bool) (e : GPTPartitionEntry) (ps : List ResolvedPartition) → j < k → IsUnnamed j ps → IsUnnamed j (part_if_used b k e ps)
above_more j k false e ps low rest = rest
above_more j k true e ps low rest = unnamed_more j (own_partition k e) ps (λ same. omega (arith, low, same)) rest

above : (j k : ℕ) (es : List GPTPartitionEntry) → j < k → IsUnnamed j (own_partitions k es)
above j k [] low = λ m d below. absurd (omega (arith, below))
above j k (e ∷ es) low = above_more j k (is_used e) e (own_partitions (k + 1) es) low (above j (k + 1) es (omega (arith, low)))

differ_more : (k : ℕ) (b : Bool) (e : GPTPartitionEntry) (ps : List ResolvedPartition) → IsUnnamed k ps → DifferInNumber ps → DifferInNumber (part_if_used b k e ps)
differ_more k false e ps unnamed rest = rest
differ_more k true e ps unnamed rest = (unnamed, rest)

differ : (k : ℕ) (es : List GPTPartitionEntry) → DifferInNumber (own_partitions k es)
differ k [] = tt
differ k (e ∷ es) = differ_more k (is_used e) e (own_partitions (k + 1) es) (above k (k + 1) es (omega arith)) (differ (k + 1) es)

-- Each has the number of an entry.
abbrev HaveNumbers : GPT → List ResolvedPartition → Type 0
HaveNumbers g [] = Unit {0}
HaveNumbers g (p ∷ ps) = IsNumber g p.number × HaveNumbers g ps

own_number : (g : GPT) (p : ResolvedPartition) → IsOwn g p → IsNumber g p.number
own_number g p own =
    let low = own.low in
    let below = used_below (entries_in g) (p.number - 1) (subst (λ (e : GPTPartitionEntry). IsTrue (is_used e)) (sym own.at) own.used) in
    (low, omega (arith, low, below))

own_numbers : (g : GPT) (ps : List ResolvedPartition) → OwnedBy g ps → HaveNumbers g ps
own_numbers g [] own = tt
own_numbers g (p ∷ ps) own = (own_number g p own.0, own_numbers g ps own.1)

numbers_stay : (g h : GPT) (ps : List ResolvedPartition) → length (entries_in h) ≡ length (entries_in g) → HaveNumbers g ps → HaveNumbers h ps
numbers_stay g h [] long has = tt
numbers_stay g h (p ∷ ps) long has =
    let number = has.0 in ((number.0, omega (arith, long, number.1)), numbers_stay g h ps long has.1)

-- ---- the clearing

-- The table with that entry made unused.
abbrev clear_of : GPT → ℕ → GPT
clear_of g i = with_entry g i empty_entry

clear_first : (p : ResolvedPartition) (ps : List ResolvedPartition) (g : GPT) → IsNumber g p.number → cleared (p ∷ ps) g ≡ cleared ps (clear_of g p.number)
clear_first p ps g number =
    let i : ℕ = p.number in
    let found = of_number g (i - 1) i (omega (arith, number.0)) (omega (arith, number.0, number.1)) in
    let next : Option GPTPartitionEntry → Result GPT Refusal = λ o. elim o [ None ↦ Err (NoEntry i) | Some e ↦ cleared ps (clear_of g i) ] in
    ap next found

clear_numbers : (p : ResolvedPartition) (ps : List ResolvedPartition) (g : GPT) → HaveNumbers g ps → HaveNumbers (clear_of g p.number) ps
clear_numbers p ps g has = numbers_stay g (clear_of g p.number) ps (length-set (entries_in g) (p.number - 1) empty_entry) has

-- Clearing is not refused.
clears : (ps : List ResolvedPartition) (g : GPT) (r : Refusal) → HaveNumbers g ps → cleared ps g ≢ Err r
clears [] g r has = λ is. absurd (cc)
clears (p ∷ ps) g r has = λ is. clears ps (clear_of g p.number) r (clear_numbers p ps g has.1) (sym (clear_first p ps g has.0) ∙ is)

-- The cleared entries are empty,
gone_by : (ps : List ResolvedPartition) (g h : GPT) (j : ℕ) → cleared ps g ≡ Ok h → 1 ≤ j → entry_at g j ≡ empty_entry → (HasNumber j ps → entry_at h j ≡ empty_entry)
    → (HasNumber j ps ⊎ IsUnnamed j ps) → entry_at h j ≡ empty_entry
gone_by ps g h j done low here again (inl named) = again named
gone_by ps g h j done low here again (inr unnamed) = cleared_keep ps g h j done low unnamed ∙ here

gone : (ps : List ResolvedPartition) (g h : GPT) (j : ℕ) → HaveNumbers g ps → cleared ps g ≡ Ok h → 1 ≤ j → HasNumber j ps → entry_at h j ≡ empty_entry
gone [] g h j has done low named = absurd named
gone (p ∷ ps) g h j has done low (inr named) = gone ps (clear_of g p.number) h j (clear_numbers p ps g has.1) (sym (clear_first p ps g has.0) ∙ done) low named
gone (p ∷ ps) g h j has done low (inl same) =
    let next : GPT = clear_of g p.number in
    let rest : cleared ps next ≡ Ok h = sym (clear_first p ps g has.0) ∙ done in
    let here : entry_at next j ≡ empty_entry = subst (λ (n : ℕ). entry_at next n ≡ empty_entry) same (this_entry g p.number empty_entry has.0) in
    gone_by ps next h j rest low here (gone ps next h j (clear_numbers p ps g has.1) rest low) (named_or j ps)

-- and if none is used, no used number is found.
none_found : (k : ℕ) (es : List GPTPartitionEntry) → ((m : ℕ) → IsTrue (is_unused (get_or es m empty_entry))) → first_numbered is_used (enumerate_from k es) ≡ None
none_found k [] unused = refl
none_found k (e ∷ es) unused =
    let rest : Option ℕ = first_numbered is_used (enumerate_from (k + 1) es) in
    subst (λ (b : Bool). ◌≡◌ {A = Option ℕ} (if not b then Some k else rest) None) (sym (unused 0)) (none_found (k + 1) es (λ m. unused (suc m)))

-- ---- the putting

-- A partition with a given place, under the number of an unused entry.
record IsFree (g : GPT) (p : ResolvedPartition) : Type 0 where
  number : IsNumber g p.number
  unused : IsTrue (is_unused (entry_at g p.number))
  first : ℕ
  last : ℕ
  place : p.place ≡ At first last

abbrev AreFree : GPT → List ResolvedPartition → Type 0
AreFree g [] = Unit {0}
AreFree g (p ∷ ps) = IsFree g p × AreFree g ps

-- It is put,
put_one : (g : GPT) (p : ResolvedPartition) (r : Refusal) → IsFree g p → ¬ RefusesPut p g r
put_one g p r free (no_entry none is) = none free.number
put_one g p r free (twice number used is) = used free.unused
put_one g p r free (no_room number unused full is) = subst (λ (place : Place). HasNoRoom place g) free.place full

-- the others can still be put,
free_still : (g next : GPT) (p q : ResolvedPartition) → IsPut p g next → q.number ≢ p.number → IsFree g q → IsFree next q
free_still g next p q put other free =
    let number = free.number in
    let entry : GPTPartitionEntry = record p.entry { starting_lba = put.range.first; ending_lba = put.range.last } in
    let long : length (entries_in next) ≡ length (entries_in g) = ap (λ (m : GPT). length (entries_in m)) put.next_is ∙ length-set (entries_in g) (p.number - 1) entry in
    record {
      number = (number.0, omega (arith, long, number.1));
      unused = subst (λ (e : GPTPartitionEntry). IsTrue (is_unused e)) (sym (put_other p g next q.number put number.0 (λ same. other (sym same)))) free.unused;
      first = free.first;
      last = free.last;
      place = free.place;
    }

all_free : (g next : GPT) (p : ResolvedPartition) (ps : List ResolvedPartition) → IsPut p g next → IsUnnamed p.number ps → AreFree g ps → AreFree next ps
all_free g next p [] put unnamed free = tt
all_free g next p (q ∷ ps) put unnamed free =
    (free_still g next p q put (unnamed 0 q (omega arith)) free.0, all_free g next p ps put (λ k d below. unnamed (suc k) d (omega (arith, below))) free.1)

-- and so all are put.
puts : (g : GPT) (ps : List ResolvedPartition) (r : Refusal) → DifferInNumber ps → AreFree g ps → ¬ RefusesPutting ps g r
puts g [] r own free refused = refused
puts g (p ∷ ps) r own free (inl refused) = put_one g p r free.0 refused
puts g (p ∷ ps) r own free (inr (mid, put, refused)) = puts mid ps r own.1 (all_free g mid p ps put own.0 free.1) refused

-- ---- the whole layout

module _ (g : GPT) (ps : List ResolvedPartition) (owned : OwnedBy g ps) (covers : CoversFrom ps 1 (entries_in g)) (align : ℕ) (h : GPT)
    (done : cleared ps (record g { align = align }) ≡ Ok h) where
  gone_at : (j : ℕ) → 1 ≤ j → HasNumber j ps → IsTrue (is_unused (entry_at h j))
  gone_at j low named =
      subst (λ (e : GPTPartitionEntry). IsTrue (is_unused e)) (sym (gone ps (record g { align = align }) h j (own_numbers g ps owned) done low named)) refl

  unused_by : (m : ℕ) (b : Bool) → is_used (entry_at g (suc m)) ≡ b → IsTrue (is_unused (entry_at h (suc m)))
  unused_by m true used = gone_at (suc m) (omega arith) (used_named g ps m covers used)
  unused_by m false unused =
      let stays = cleared_keep ps (record g { align = align }) h (suc m) done (omega arith) (own_unnamed g (suc m) ps owned unused) in
      subst (λ (e : GPTPartitionEntry). IsTrue (is_unused e)) (sym stays) (not-false (is_unused (entry_at g (suc m))) unused)

  -- No unnamed entry is used,
  none_other : others_fault (Become false) h ≡ None
  none_other =
      ap (others_fault_of (Become false)) (none_found 1 (entries_in h) (λ m.
      subst (λ (e : GPTPartitionEntry). IsTrue (is_unused e)) (at_number h m (suc m) (omega arith)) (unused_by m (is_used (entry_at g (suc m))) refl)))

  -- and each partition may be put.
  free_all : (qs : List ResolvedPartition) → OwnedBy g qs → ((j : ℕ) → HasNumber j qs → HasNumber j ps) → AreFree h qs
  free_all [] own among = tt
  free_all (q ∷ qs) own among =
      let number = own_number g q own.0 in
      let long = (all_cleared_keep ps (record g { align = align }) h done).long in (
        record {
          number = (number.0, omega (arith, number.1, long));
          unused = gone_at q.number number.0 (among q.number (inl refl));
          first = own.0.e.starting_lba;
          last = own.0.e.ending_lba;
          place = own.0.place;
        },
        free_all qs own.1 (λ j named. among j (inr named)),
      )

-- A layout that requests each used entry unchanged, once, is not refused.
module _ (g : GPT) (layout : RequestedLayout) (randoms : List (List ℕ)) (own : List ResolvedPartition) (n : ℕ) (all_asked : resolved_all g layout.mode layout.asked.items randoms ≡ Ok own)
    (owned : OwnedBy g own) (covers : CoversFrom own 1 (entries_in g)) (once : DifferInNumber own) (mode : layout.mode ≡ Become false) (none : layout.removed.items ≡ [])
    (align_is : align_asked layout.align g.sector_size ≡ Ok n) where
  none_removed : (h : GPT) → removed_all layout.removed.items h ≡ Ok h
  none_removed h = ap (λ (numbers : List ℕ). removed_all numbers h) none

  -- The results of the steps are those computed here.
  as_own : (ps : List ResolvedPartition) → resolved_all g layout.mode layout.asked.items randoms ≡ Ok ps → own ≡ ps
  as_own ps all = let both : Ok own ≡ Ok ps = sym all_asked ∙ all in cc

  own_cleared : (ps : List ResolvedPartition) (align : ℕ) (rest : GPT) (result : Result GPT Refusal) → resolved_all g layout.mode layout.asked.items randoms ≡ Ok ps
      → removed_all layout.removed.items (record g { align = align }) ≡ Ok rest → cleared ps rest ≡ result → cleared own (record g { align = align }) ≡ result
  own_cleared ps align rest result all removed done =
      let both : Ok (record g { align = align }) ≡ Ok rest = sym (none_removed (record g { align = align })) ∙ removed in
      let same : record g { align = align } ≡ rest = cc in
      ap (λ (m : GPT). cleared own m) same ∙ (ap (λ (qs : List ResolvedPartition). cleared qs rest) (as_own ps all) ∙ done)

  -- No step is refused.
  pub not_refused_where : (r : Refusal) → ¬ RefusesAsked layout randoms g r
  not_refused_where r (not_asked refused) = let both : Ok own ≡ Err r = sym all_asked ∙ refused in cc
  not_refused_where r (no_align ps all refused) = let both : Ok n ≡ Err r = sym align_is ∙ refused in cc
  not_refused_where r (not_removed ps align all is_align refused) =
      let both : Ok (record g { align = align }) ≡ Err r = sym (none_removed (record g { align = align })) ∙ refused in cc
  not_refused_where r (not_cleared ps align rest all is_align removed refused) =
      clears own (record g { align = align }) r (own_numbers g own owned) (own_cleared ps align rest (Err r) all removed refused)
  not_refused_where r (others_there ps align rest free all is_align removed done refused) =
      let none = none_other g own owned covers align free (own_cleared ps align rest (Ok free) all removed done) in
      let some : others_fault (Become false) free ≡ Some r = subst (λ (mode : Mode). others_fault mode free ≡ Some r) mode refused in
      let both : ◌≡◌ {A = Option Refusal} None (Some r) = sym none ∙ some in cc
  not_refused_where r (not_put ps align rest free all is_align removed done others refused) =
      let may = free_all g own owned covers align free (own_cleared ps align rest (Ok free) all removed done) own owned (λ j named. named) in
      puts free own r once may (subst (λ (qs : List ResolvedPartition). RefusesPutting qs free r) (sym (as_own ps all)) refused)

module _ (g : GPT) (layout : RequestedLayout) (randoms : List (List ℕ)) (is : IsLayoutOf g layout) (enough : length layout.asked.items ≤ length randoms)
    (placed : All IsPlaced (entries_in g)) (aligned : 0 < g.align) where
  abbrev asked : List Asked
  asked = asked_of_all (enumerate_from 1 (entries_in g))

  abbrev own : List ResolvedPartition
  own = own_partitions 1 (entries_in g)

  asked_enough : length asked ≤ length randoms
  asked_enough = subst (λ (items : List Asked). length items ≤ length randoms) is.asked enough

  resolves : resolved_all g (Become false) asked randoms ≡ Ok own
  resolves = resolves_all g 1 (entries_in g) (has_all g) placed randoms asked_enough

  all_asked : resolved_all g layout.mode layout.asked.items randoms ≡ Ok own
  all_asked =
      subst (λ (mode : Mode). resolved_all g mode layout.asked.items randoms ≡ Ok own) (sym is.mode)
      (subst (λ (items : List Asked). resolved_all g (Become false) items randoms ≡ Ok own) (sym is.asked) resolves)

  owned : OwnedBy g own × CoversFrom own 1 (entries_in g)
  owned = all_own g 1 (entries_in g) randoms own (omega arith) (has_all g) asked_enough resolves

  align_is : align_asked layout.align g.sector_size ≡ Ok g.align
  align_is =
      ap (λ (amount : Amount). align_asked amount g.sector_size) is.align
      ∙ subst (λ (b : Bool). ◌≡◌ {A = Result ℕ Refusal} (if b then Err NoAlignment else Ok g.align) (Ok g.align)) (sym (ne_eqb g.align 0 (λ none. omega (arith, none, aligned)))) refl

  taken : (r : Refusal) → ¬ RefusesAsked layout randoms g r
  taken = not_refused_where g layout randoms own g.align all_asked owned.0 owned.1 (differ 1 (entries_in g)) is.mode is.removed align_is

-- The result may be written if the table may.
module _ (g next : GPT) (layout : RequestedLayout) (randoms : List (List ℕ)) (is : IsLayoutOf g layout) (enough : length layout.asked.items ≤ length randoms)
    (applied : IsApplied layout randoms g next) (valid : IsValid g.header (entries_in g)) where
  same : entries_in g ≡ entries_in next
  same = sym (same_entries g next layout randoms is enough applied)

  good_still : HasGoodBoundaries next.header (entries_in next)
  good_still =
      let good = subst (λ (es : List GPTPartitionEntry). HasGoodBoundaries g.header es) same valid.boundaries in
      subst (λ (h : GPTHeader). HasGoodBoundaries h (entries_in next)) (sym (done_keeps (Apply layout) randoms g next applied).header) (record {
        ordered = good.ordered;
        disjoint = good.disjoint;
        within = good.within;
        bounds = good.bounds;
      })

  written : (r : Refusal) → ¬ RefusesCheck next r
  written r (shared clash told) = clash (subst HasOwnGuids same valid.own_guids)
  written r (boundaries guids bad told) = bad good_still

pub all_placed : (g : GPT) (len : ℕ) → HasLayout g len → IsValid g.header (entries_in g) → All IsPlaced (entries_in g)
all_placed g len has valid = λ k d below used.
    let high = valid.boundaries.within k d below used in
    let fits = has.table.fits in
    (valid.boundaries.ordered k d below, omega (arith, high.1, fits))

pub not_refused : LayoutsAreTaken
not_refused g len layout request r is job enough aligned has valid (not_laid_out lacks told) = lacks has
not_refused g len layout request r is job enough aligned has valid (not_done laid_out refused) =
    taken g layout request.random.items is enough (all_placed g len has valid) aligned r (subst (λ (j : Job). RefusesJob j request.random.items g r) job refused)
not_refused g len layout request r is job enough aligned has valid (not_written next laid_out done refused) =
    written g next layout request.random.items is enough (subst (λ (j : Job). IsDone j request.random.items g next) job done) valid r refused
