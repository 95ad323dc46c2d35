-- A layout is not refused a second time.
use Rattle.std.proofs.Common.{◌≡◌, ◌≢◌, ◌≤◌, ◌<◌, ◌⊎◌, inl, inr, ℕ, ◌+◌, ◌-◌, ◌^◌, List, [], ◌∷◌, refl, sym, ap, ◌∙◌, subst, arith, zero, suc, IsTrue, Bool, true, false, length}
use Rattle.std.specs.Prelude.{Option, Some, None, Result, Ok, Err, All, Contains, get_or, max, nat_eq, nat_le, slice_get, unwrap_or, if◌then◌else◌}
use Rattle.std.proofs.lemmas.Bool.{eq-eqb, eqb-false, eqb-true, le-leb, leb-true}
use Rattle.std.proofs.lemmas.List.{length-set}
use Rattle.std.proofs.lemmas.Option.{slice_get_within}
use Rattle.gptman.specs.Coding.{empty_entry}
use Rattle.gptman.specs.Entry.{is_unused, is_used}
use Rattle.gptman.specs.Number.{entry_at, entry_of_number, with_entry, IsNumber}
use Rattle.gptman.specs.Table.{entries_in}
use Rattle.gptman.specs.TableWrites.{MayBeWritten}
use Rattle.gptman.specs.declared.codec.entry.GPTPartitionEntry.{GPTPartitionEntry}
use Rattle.gptman.specs.declared.table.GPT.{GPT}
use Rattle.gptedit_core.specs.Applying.{align_asked, asks_rest, lowest_used, rest_numbers, others_fault, removed_all, removed_one, without_entry, is_blank, ArePut, IsApplied, RefusesAsked}
use Rattle.gptedit_core.specs.Named.{AreNumbered, AreThere, Asks, IsAgain, IsThere, IsUnnamed, IsWhole, LayoutsAreTakenAgain}
use Rattle.gptedit_core.specs.Placing.{IsSpan}
use Rattle.gptedit_core.specs.Planning.{asks_random, IsDone, RefusesCheck, RefusesJob}
use Rattle.gptedit_core.specs.Planning.RefusesCheck.{boundaries, shared}
use Rattle.gptedit_core.specs.Planning.RefusesRequest.{not_done, not_laid_out, not_written}
use Rattle.gptedit_core.specs.Resolving.{and_then, entry_asked, lowest_unused, number_asked, number_asked_or, partition_at, place_asked, place_of, resolved, resolved_all, rest_of, room_asked, span_from, start_asked, stay_fault, there_of, unless, used_at}
use Rattle.gptedit_core.specs.Sectors.{between}
use Rattle.gptedit_core.specs.declared.amount.Amount.{Amount}
use Rattle.gptedit_core.specs.declared.asked.Asked.{Asked}
use Rattle.gptedit_core.specs.declared.asked.Choice.{Choice}
use Rattle.gptedit_core.specs.declared.asked.RequestedLayout.{RequestedLayout}
use Rattle.gptedit_core.specs.declared.asked.Mode.{Mode}
use Rattle.gptedit_core.specs.declared.asked.Mode.TheVariants.{Become}
use Rattle.gptedit_core.specs.declared.place.Place.{Place}
use Rattle.gptedit_core.specs.declared.place.Place.TheVariants.{At, Free}
use Rattle.gptedit_core.specs.declared.plan.Job.{Job}
use Rattle.gptedit_core.specs.declared.plan.Job.TheVariants.{Apply}
use Rattle.gptedit_core.specs.declared.refusal.Refusal.{Refusal}
use Rattle.gptedit_core.specs.declared.refusal.Refusal.TheVariants.{IsUnused, NoEntry, NoType}
use Rattle.gptedit_core.specs.declared.resolve.ResolvedPartition.{ResolvedPartition}
use Rattle.gptedit_core.specs.declared.resolve.Room.{Room}
use Rattle.gptedit_core.specs.declared.resolve.Room.TheVariants.{Sectors as RoomSectors, Rest as RoomRest}
use Rattle.gptedit_core.specs.declared.sectors.SectorRange.{SectorRange}
use Rattle.gptedit_core.proofs.Again.{all_again, asked_again, is_first, layouts_stay, named_or, place_first, used_of}
use Rattle.gptedit_core.proofs.Requested.{begins, not_rest, sized_by, span_at, unless_ok}
use Rattle.gptedit_core.proofs.Dumped.{at_number, of_number, used_is, with_used, CoversFrom, HasNumber, OwnedBy}
use Rattle.gptedit_core.proofs.Extended.{extended_same, OnlyEnd}
use Rattle.gptedit_core.proofs.Exact.{differ_put, exact, unnamed_more}
use Rattle.gptedit_core.proofs.Placed.{last_end, last_exact, placed_there, unnamed_among, AreExact, DifferInNumber}
use Rattle.gptedit_core.proofs.Kept.{done_keeps, done_layout}
use Rattle.gptedit_core.proofs.Applied.{cleared_keep, keep, other_entry, others_unused, this_entry}
use Rattle.gptedit_core.proofs.Resolved.{resolved_more, used_all}
use Rattle.gptedit_core.proofs.Same.{put_same}
use Rattle.gptedit_core.proofs.Stayed.{not_both}
use Rattle.gptedit_core.proofs.Steps.{and_then_ok, else_ok}
use Rattle.gptedit_core.proofs.Taken.{all_placed, has_type, not_refused_where, own_partition, span_to, stays, IsPlaced}

-- ---- the place of an entry that is requested again

-- The place of a used entry, by its steps.
place_from : (a : Asked) (i ss : ℕ) (y : GPTPartitionEntry) (s : Option ℕ) (r : Option Room) (place : Place) → start_asked a.start ss ≡ Ok s → room_asked a.size i ss ≡ Ok r
    → place_of i r s (Some (between y.starting_lba y.ending_lba)) a.choice ≡ Ok place
    → stay_fault (Become false) i (Some (between y.starting_lba y.ending_lba)) place ≡ None → place_asked (Become false) a i (Some y) ss ≡ Ok place
place_from a i ss y s r place start room at stay =
    let stay_of : Place → Result Place Refusal = λ p. unless (stay_fault (Become false) i (Some (between y.starting_lba y.ending_lba)) p) p in
    let at_of : Option ℕ → Option Room → Result Place Refusal = λ x z. and_then (place_of i z x (Some (between y.starting_lba y.ending_lba)) a.choice) stay_of in
    let room_of : Option ℕ → Result Place Refusal = λ x. and_then (room_asked a.size i ss) (at_of x) in
    ap (λ (x : Result (Option ℕ) Refusal). and_then x room_of) start
    ∙ (ap (λ (x : Result (Option Room) Refusal). and_then x (at_of s)) room
    ∙ (ap (λ (x : Result Place Refusal). and_then x stay_of) at
    ∙ ap (λ (o : Option Refusal). unless o place) stay))

-- The place is unchanged, whatever was requested. Only one that gets the rest may have been put with another end.
module _ (i first end last : ℕ) (choice : Choice) (g : GPT) (ordered : first ≤ last) (fits : last + 1 < 2 ^ 64) where
  place_again : (room : Option Room) (start : Option ℕ) (there : Option SectorRange) (place : Place) → place_of i room start there choice ≡ Ok place
      → IsSpan place g (between first end) → (room ≢ Some RoomRest → end ≡ last) → place_of i room start (Some (between first last)) choice ≡ Ok (At first last)
  place_again (Some (RoomSectors n)) (Some x) there place is span exact =
      let same : end ≡ last = exact (λ rest. absurd (cc)) in
      let s = span_at i x (n - 1) place g (between first end) is span in
      let low : first ≡ x = ap (λ (p : SectorRange). p.first) s in
      let high : end ≡ x + (n - 1) = ap (λ (p : SectorRange). p.last) s in
      subst (λ (y : ℕ). span_from i y (n - 1) ≡ Ok (At first last)) low (span_to i first (n - 1) last (omega (arith, low, high, same)) (omega (arith, fits)))
  place_again (Some (RoomSectors n)) None (Some there) place is span exact =
      let same : end ≡ last = exact (λ rest. absurd (cc)) in
      let s = span_at i there.first (n - 1) place g (between first end) is span in
      let low : first ≡ there.first = ap (λ (p : SectorRange). p.first) s in
      let high : end ≡ there.first + (n - 1) = ap (λ (p : SectorRange). p.last) s in
      span_to i first (n - 1) last (omega (arith, low, high, same)) (omega (arith, fits))
  place_again (Some (RoomSectors n)) None None place is span exact =
      let equal : end ≡ last = exact (λ rest. absurd (cc)) in
      let same : Free n choice ≡ place = cc in
      let free : IsSpan (Free n choice) g (between first end) = subst (λ (p : Place). IsSpan p g (between first end)) (sym same) span in
      let at : end ≡ first + (max 1 n - 1) = free.1 in
      span_to i first (n - 1) last (omega (arith, at, equal)) (omega (arith, fits))
  place_again (Some RoomRest) None there place is span exact = refl
  place_again (Some RoomRest) (Some x) there place is span exact =
      let same : rest_of (Some x) there ≡ place = cc in
      let low = begins x there (between first end) g (subst (λ (p : Place). IsSpan p g (between first end)) (sym same) span) in
      rw (eq-eqb x first (sym low)) refl
  place_again None None (Some there) place is span exact = refl
  place_again None None None place is span exact = absurd (cc)
  place_again None (Some x) None place is span exact = absurd (cc)
  place_again None (Some x) (Some there) place is span exact =
      let same : end ≡ last = exact (λ rest. absurd (cc)) in
      let s = span_at i x (there.last - there.first) place g (between first end) (sized_by i (nat_le there.first there.last) _ place is) span in
      let low : first ≡ x = ap (λ (p : SectorRange). p.first) s in
      rw (le-leb first last ordered) (subst (λ (y : ℕ). span_from i y (last - first) ≡ Ok (At first last)) low (span_to i first (last - first) last (omega arith) (omega (arith, fits))))

  asked_place : (mode : Mode) (a : Asked) (used : Option GPTPartitionEntry) (ss : ℕ) (place : Place) (y : GPTPartitionEntry) → a.choice ≡ choice
      → y.starting_lba ≡ first → y.ending_lba ≡ last → place_asked mode a i used ss ≡ Ok place → IsSpan place g (between first end)
      → (asks_rest a.size ≡ false → end ≡ last) → place_asked (Become false) a i (Some y) ss ≡ Ok (At first last)
  asked_place mode a used ss place y chosen low high is span exact =
      let start = and_then_ok (start_asked a.start ss) _ place is in
      let room = and_then_ok (room_asked a.size i ss) _ place start.2 in
      let at = and_then_ok (place_of i room.0 start.0 (there_of used) a.choice) _ place room.2 in
      let stay = unless_ok (stay_fault mode i (there_of used) at.0) at.0 place at.2 in
      let here : place_of i room.0 start.0 (there_of used) choice ≡ Ok at.0 = subst (λ (c : Choice). place_of i room.0 start.0 (there_of used) c ≡ Ok at.0) chosen at.1 in
      let again : place_of i room.0 start.0 (Some (between first last)) choice ≡ Ok (At first last) =
      place_again room.0 start.0 (there_of used) at.0 here (subst (λ (p : Place). IsSpan p g (between first end)) (sym stay.1) span) (not_rest a.size i ss room.0 room.1 exact) in
      let there : place_of i room.0 start.0 (Some (between y.starting_lba y.ending_lba)) a.choice ≡ Ok (At first last) =
      subst (λ (c : Choice). place_of i room.0 start.0 (Some (between y.starting_lba y.ending_lba)) c ≡ Ok (At first last)) (sym chosen)
      (subst (λ (x : ℕ). place_of i room.0 start.0 (Some (between x y.ending_lba)) choice ≡ Ok (At first last)) (sym low)
      (subst (λ (x : ℕ). place_of i room.0 start.0 (Some (between first x)) choice ≡ Ok (At first last)) (sym high) again)) in
      let fault : stay_fault (Become false) i (Some (between y.starting_lba y.ending_lba)) (At first last) ≡ None =
      subst (λ (x : ℕ). stay_fault (Become false) i (Some (between x y.ending_lba)) (At first last) ≡ None) (sym low)
      (subst (λ (x : ℕ). stay_fault (Become false) i (Some (between first x)) (At first last) ≡ None) (sym high) (stays i first last)) in
      place_from a i ss y start.0 room.0 (At first last) start.1 room.1 there fault

-- ---- one entry that is requested again

-- Requested again, an entry that was put is that entry.
resolved_again : (g t mid next : GPT) (mode : Mode) (a : Asked) (random other : List ℕ) (i : ℕ) (p : ResolvedPartition) → a.number ≡ Some i → resolved g mode a random ≡ Ok p
    → next.sector_size ≡ g.sector_size → entry_of_number next p.number ≡ Some (entry_at next p.number) → IsPlaced (entry_at next p.number) → IsThere p t mid
    → OnlyEnd (entry_at mid p.number) (entry_at next p.number) → (asks_rest a.size ≡ false → entry_at next p.number ≡ entry_at mid p.number)
    → resolved next (Become false) a other ≡ Ok (own_partition p.number (entry_at next p.number))
resolved_again g t mid next mode a random other i p number_is is sector found placed there only exact =
    let first = is_first g mode a random i p number_is is in
    let n : ℕ = p.number in
    let last : ℕ = (entry_at next n).ending_lba in
    let y : GPTPartitionEntry = record first.x {
      partition_type_guid = unwrap_or a.type_guid first.x.partition_type_guid;
      unique_partition_guid = unwrap_or a.unique_guid first.x.unique_partition_guid;
      attribute_bits = unwrap_or a.attributes first.x.attribute_bits;
      partition_name = unwrap_or a.name first.x.partition_name;
      starting_lba = there.range.first;
      ending_lba = last;
    } in
    let put : entry_at next n ≡ y =
    only.same ∙ (ap (λ (e : GPTPartitionEntry). record e { ending_lba = last }) there.entry ∙ (λ k. record (first.entry k) { starting_lba = there.range.first; ending_lba = last })) in
    let end : asks_rest a.size ≡ false → there.range.last ≡ last =
    λ none. sym (ap (λ (e : GPTPartitionEntry). e.ending_lba) (exact none ∙ there.entry)) in
    let type : ¬ IsTrue (is_unused y) = subst (λ (e : GPTPartitionEntry). ¬ IsTrue (is_unused e)) first.entry first.used in
    let used : IsTrue (is_used y) = used_of (is_unused y) type in
    let is_placed : IsPlaced y = subst IsPlaced put placed in
    let fits : (there.range.first ≤ last) × (last + 1 < 2 ^ 64) = is_placed used in
    let asked = place_first g mode a random p is in
    let place : place_asked (Become false) a n (Some y) g.sector_size ≡ Ok (At there.range.first last) =
    asked_place n there.range.first there.range.last last a.choice t fits.0 fits.1 mode a (used_at g n) g.sector_size p.place y refl refl refl asked there.span end in
    let here : place_asked (Become false) a n (Some y) next.sector_size ≡ Ok (At there.range.first last) =
    subst (λ (ss : ℕ). place_asked (Become false) a n (Some y) ss ≡ Ok (At there.range.first last)) (sym sector) place in
    let whole_of : GPTPartitionEntry → Place → Result ResolvedPartition Refusal = λ e place. if is_unused e then Err (NoType n) else Ok (record { number = n; entry = e; place = place }) in
    let same : y ≡ entry_asked a (Some y) other = sym (asked_again a first.x other there.range.first last) in
    let plain : and_then (place_asked (Become false) a n (Some y) next.sector_size) (whole_of y) ≡ Ok (own_partition n y) =
    ap (λ (r : Result Place Refusal). and_then r (whole_of y)) here ∙ has_type (is_unused y) n (own_partition n y) used in
    let part : with_used next a other n (Some y) ≡ Ok (own_partition n y) =
    subst (λ (e : GPTPartitionEntry). and_then (place_asked (Become false) a n (Some y) next.sector_size) (whole_of e) ≡ Ok (own_partition n y)) same plain in
    let is_found : entry_of_number next n ≡ Some y = found ∙ ap Some put in
    let at : used_at next n ≡ Some y = used_is next n y is_found used in
    let number : number_asked next a ≡ Ok n =
    subst (λ (o : Option ℕ). number_asked_or next o (lowest_unused next) ≡ Ok n) (ap Some (sym first.number) ∙ sym number_is)
    (subst (λ (o : Option GPTPartitionEntry). ◌≡◌ {A = Result ℕ Refusal} (elim o [ None ↦ Err (NoEntry n) | Some x ↦ Ok n ]) (Ok n)) (sym is_found) refl) in
    let whole : ◌≡◌ {A = Result ResolvedPartition Refusal} (Ok (own_partition n y)) (Ok (own_partition n (entry_at next n))) = ap (λ (e : GPTPartitionEntry). Ok (own_partition n e)) (sym put) in
    ap (λ (r : Result ℕ Refusal). and_then r (partition_at next (Become false) a other)) number ∙ (ap (with_used next a other n) at ∙ (part ∙ whole))

-- ---- all entries
-- The entries under the numbers of the partitions, as partitions.
abbrev those_there : GPT → List ResolvedPartition → List ResolvedPartition
those_there next [] = []
those_there next (p ∷ ps) = own_partition p.number (entry_at next p.number) ∷ those_there next ps

-- Each of them has a number.
abbrev AllFound : GPT → List ResolvedPartition → Type 0
AllFound next [] = Unit {0}
AllFound next (p ∷ ps) = ((entry_of_number next p.number ≡ Some (entry_at next p.number)) × IsPlaced (entry_at next p.number) × (1 ≤ p.number)) × AllFound next ps

all_resolved_again : (g t mid next : GPT) (mode : Mode) (asked : List Asked) (randoms others : List (List ℕ)) (ps : List ResolvedPartition) → AreNumbered asked
    → length asked ≤ length randoms → length asked ≤ length others → next.sector_size ≡ g.sector_size → AllFound next ps
    → resolved_all g mode asked randoms ≡ Ok ps → AreThere ps t mid
    → ((j : ℕ) → 1 ≤ j → OnlyEnd (entry_at mid j) (entry_at next j)) → AreExact (λ j. entry_at next j ≡ entry_at mid j) asked ps
    → resolved_all next (Become false) asked others ≡ Ok (those_there next ps)
all_resolved_again g t mid next mode [] randoms others ps numbered long more sector found all there ends exact =
    let none : [] ≡ ps = cc in ap (λ (qs : List ResolvedPartition). Ok (those_there next qs)) none
all_resolved_again g t mid next mode (a ∷ asked) [] others ps numbered long more sector found all there ends exact = absurd (omega (arith, long))
all_resolved_again g t mid next mode (a ∷ asked) (random ∷ randoms) [] ps numbered long more sector found all there ends exact = absurd (omega (arith, more))
all_resolved_again g t mid next mode (a ∷ asked) (random ∷ randoms) (other ∷ others) ps numbered long more sector found all there ends exact =
    let p = and_then_ok (resolved g mode a random) _ ps all in
    let rest = and_then_ok (resolved_all g mode asked randoms) _ ps p.2 in
    let whole : p.0 ∷ rest.0 ≡ ps = cc in
    let both : AreThere (p.0 ∷ rest.0) t mid = subst (λ (xs : List ResolvedPartition). AreThere xs t mid) (sym whole) there in
    let have : AllFound next (p.0 ∷ rest.0) = subst (AllFound next) (sym whole) found in
    let exacts : AreExact (λ j. entry_at next j ≡ entry_at mid j) (a ∷ asked) (p.0 ∷ rest.0) =
    subst (AreExact (λ j. entry_at next j ≡ entry_at mid j) (a ∷ asked)) (sym whole) exact in
    let one = resolved_again g t mid next mode a random other numbered.0.0 p.0 numbered.0.1 p.1 sector have.0.0 have.0.1 both.0 (ends p.0.number have.0.2) exacts.0 in
    let others_again = all_resolved_again g (with_entry t p.0.number (entry_at mid p.0.number)) mid next mode asked randoms others rest.0 numbered.1 (omega (arith, long)) (omega (arith, more)) sector have.1 rest.1 both.1 ends exacts.1 in
    let end : ◌≡◌ {A = Result (List ResolvedPartition) Refusal} (Ok (those_there next (p.0 ∷ rest.0))) (Ok (those_there next ps)) = ap (λ (qs : List ResolvedPartition). Ok (those_there next qs)) whole in
    resolved_more next (Become false) a other asked others (own_partition p.0.number (entry_at next p.0.number)) (those_there next rest.0) one others_again
    ∙ end

-- ---- their numbers

-- Each partition that was put has a number of the table,
numbers_found : (g next : GPT) (ps : List ResolvedPartition) (last : GPT) → ArePut ps g last → length (entries_in next) ≡ length (entries_in g) → All IsPlaced (entries_in next) → AllFound next ps
numbers_found g next [] last put long placed = tt
numbers_found g next (p ∷ ps) last put long placed =
    let number = put.1.number in
    let below : p.number - 1 < length (entries_in next) = omega (arith, number.0, number.1, long) in
    let index : p.number ≡ p.number - 1 + 1 = omega (arith, number.0) in
    let at = at_number next (p.number - 1) p.number index in
    let found : entry_of_number next p.number ≡ Some (entry_at next p.number) = of_number next (p.number - 1) p.number index below ∙ ap Some (sym at) in
    let is_placed : IsPlaced (entry_at next p.number) = subst IsPlaced (sym at) (placed (p.number - 1) empty_entry below) in
    let mid : length (entries_in put.0) ≡ length (entries_in g) = put_same (λ (m : GPT). length (entries_in m)) (λ m i e. length-set (entries_in m) (i - 1) e) (p ∷ []) g put.0 (put.0, put.1, refl) in
    ((found, is_placed, number.0), numbers_found put.0 next ps last put.2 (long ∙ sym mid) placed)

unnamed_there : (next : GPT) (j : ℕ) (ps : List ResolvedPartition) → IsUnnamed j ps → IsUnnamed j (those_there next ps)
unnamed_there next j [] unnamed = λ k d below. absurd (omega (arith, below))
unnamed_there next j (p ∷ ps) unnamed =
    unnamed_more j (own_partition p.number (entry_at next p.number)) (those_there next ps) (unnamed 0 p (omega arith))
    (unnamed_there next j ps (λ k d below. unnamed (suc k) d (omega (arith, below))))

differ_there : (next : GPT) (ps : List ResolvedPartition) → DifferInNumber ps → DifferInNumber (those_there next ps)
differ_there next [] once = tt
differ_there next (p ∷ ps) once = (unnamed_there next p.number ps once.0, differ_there next ps once.1)

has_there : (next : GPT) (j : ℕ) (ps : List ResolvedPartition) → HasNumber j ps → HasNumber j (those_there next ps)
has_there next j [] has = absurd has
has_there next j (p ∷ ps) (inl same) = inl same
has_there next j (p ∷ ps) (inr has) = inr (has_there next j ps has)

-- A requested number is one of theirs.
asks_has : (g : GPT) (mode : Mode) (asked : List Asked) (randoms : List (List ℕ)) (ps : List ResolvedPartition) (j : ℕ) → length asked ≤ length randoms
    → resolved_all g mode asked randoms ≡ Ok ps → Asks j asked → HasNumber j ps
asks_has g mode [] randoms ps j long all asks = absurd asks
asks_has g mode (a ∷ asked) [] ps j long all asks = absurd (omega (arith, long))
asks_has g mode (a ∷ asked) (random ∷ randoms) ps j long all (inl number) =
    let p = and_then_ok (resolved g mode a random) _ ps all in
    let rest = and_then_ok (resolved_all g mode asked randoms) _ ps p.2 in
    let whole : p.0 ∷ rest.0 ≡ ps = cc in
    subst (HasNumber j) whole (inl (sym (is_first g mode a random j p.0 number p.1).number))
asks_has g mode (a ∷ asked) (random ∷ randoms) ps j long all (inr asks) =
    let p = and_then_ok (resolved g mode a random) _ ps all in
    let rest = and_then_ok (resolved_all g mode asked randoms) _ ps p.2 in
    let whole : p.0 ∷ rest.0 ≡ ps = cc in
    subst (HasNumber j) whole (inr (asks_has g mode asked randoms rest.0 j (omega (arith, long)) rest.1 asks))

-- ---- removed entries
number_by : (g : GPT) (i : ℕ) (e : GPTPartitionEntry) (b : Bool) → nat_le 1 i ≡ b
    → ◌≡◌ {A = Option GPTPartitionEntry} (if b then slice_get (entries_in g) (i - 1) else None) (Some e) → IsNumber g i
number_by g i e false low is = absurd (cc)
number_by g i e true low is =
    let below = slice_get_within (entries_in g) (i - 1) e is in
    let above = leb-true 1 i low in
    (above, omega (arith, above, below))

emptied_by : (g : GPT) (i j : ℕ) (b : Bool) → nat_eq i j ≡ b → IsNumber g i → 1 ≤ j → IsTrue (is_unused (entry_at g j)) → IsTrue (is_unused (entry_at (with_entry g i empty_entry) j))
emptied_by g i j true same number low unused =
    subst (λ (n : ℕ). IsTrue (is_unused (entry_at (with_entry g i empty_entry) n))) (eqb-true i j same)
    (subst (λ (e : GPTPartitionEntry). IsTrue (is_unused e)) (sym (this_entry g i empty_entry number)) refl)
emptied_by g i j false differ number low unused =
    subst (λ (e : GPTPartitionEntry). IsTrue (is_unused e)) (sym (other_entry g i j empty_entry number.0 low (eqb-false i j differ))) unused

-- An entry that is removed, or was unused, is unused.
removed_one_unused : (i j : ℕ) (g r : GPT) (found : Option GPTPartitionEntry) → entry_of_number g i ≡ found → without_entry i g found ≡ Ok r → 1 ≤ j
    → ((i ≡ j) ⊎ IsTrue (is_unused (entry_at g j))) → IsTrue (is_unused (entry_at r j))
removed_one_unused i j g r None found is low which = absurd (cc)
removed_one_unused i j g r (Some e) found is low (inl same) =
    let end = else_ok (is_blank e) (IsUnused i) (with_entry g i empty_entry) r is in
    let number = number_by g i e _ refl found in
    subst (λ (m : GPT). IsTrue (is_unused (entry_at m j))) end.1
    (subst (λ (n : ℕ). IsTrue (is_unused (entry_at (with_entry g i empty_entry) n))) same
    (subst (λ (x : GPTPartitionEntry). IsTrue (is_unused x)) (sym (this_entry g i empty_entry number)) refl))
removed_one_unused i j g r (Some e) found is low (inr unused) =
    let end = else_ok (is_blank e) (IsUnused i) (with_entry g i empty_entry) r is in
    subst (λ (m : GPT). IsTrue (is_unused (entry_at m j))) end.1 (emptied_by g i j (nat_eq i j) refl (number_by g i e _ refl found) low unused)

-- An unused entry remains unused,
removed_unused : (is : List ℕ) (g r : GPT) (j : ℕ) → removed_all is g ≡ Ok r → 1 ≤ j → IsTrue (is_unused (entry_at g j)) → IsTrue (is_unused (entry_at r j))
removed_unused [] g r j done low unused = let same : g ≡ r = cc in subst (λ (m : GPT). IsTrue (is_unused (entry_at m j))) same unused
removed_unused (i ∷ is) g r j done low unused =
    let step = and_then_ok (removed_one i g) (removed_all is) r done in
    removed_unused is step.0 r j step.2 low (removed_one_unused i j g step.0 (entry_of_number g i) refl step.1 low (inr unused))

-- and a removed entry is unused.
removed_gone : (is : List ℕ) (g r : GPT) (j k : ℕ) → removed_all is g ≡ Ok r → 1 ≤ j → k < length is → get_or is k j ≡ j → IsTrue (is_unused (entry_at r j))
removed_gone [] g r j k done low below at = absurd (omega (arith, below))
removed_gone (i ∷ is) g r j zero done low below at =
    let step = and_then_ok (removed_one i g) (removed_all is) r done in
    removed_unused is step.0 r j step.2 low (removed_one_unused i j g step.0 (entry_of_number g i) refl step.1 low (inl at))
removed_gone (i ∷ is) g r j (suc k) done low below at =
    let step = and_then_ok (removed_one i g) (removed_all is) r done in
    removed_gone is step.0 r j k step.2 low (omega (arith, below)) at

-- ---- the remaining entries
has_unnamed : (j : ℕ) (ps : List ResolvedPartition) → HasNumber j ps → ¬ IsUnnamed j ps
has_unnamed j [] has unnamed = has
has_unnamed j (p ∷ ps) (inl same) unnamed = unnamed 0 p (omega arith) same
has_unnamed j (p ∷ ps) (inr has) unnamed = has_unnamed j ps has (λ k d below. unnamed (suc k) d (omega (arith, below)))

covers_from : (ps : List ResolvedPartition) (k : ℕ) (es : List GPTPartitionEntry)
    → ((m : ℕ) → m < length es → IsTrue (is_used (get_or es m empty_entry)) → HasNumber (k + m) ps) → CoversFrom ps k es
covers_from ps k [] each = tt
covers_from ps k (e ∷ es) each = (
  λ used.
      let start : k + 0 ≡ k = omega arith in
      subst (λ (n : ℕ). HasNumber n ps) start (each 0 (omega arith) used),
  covers_from ps (k + 1) es (λ m below used.
      let shift : k + suc m ≡ k + 1 + m = omega arith in
      subst (λ (n : ℕ). HasNumber n ps) shift (each (suc m) (omega (arith, below)) used)),
)

module _ (layout : RequestedLayout) (randoms : List (List ℕ)) (g next : GPT) (applied : IsApplied layout randoms g next) (long : length layout.asked.items ≤ length randoms) (whole : IsWhole layout g) where
  kept : (j : ℕ) → 1 ≤ j → IsUnnamed j applied.partitions → entry_at next j ≡ entry_at applied.free j
  kept j low unnamed =
      last_exact layout randoms g next applied j low (unnamed_among layout.asked.items applied.partitions j unnamed)
      ∙ keep applied.partitions applied.free applied.placed j applied.put low unnamed

  left_by : (j : ℕ) (b : Bool) → is_unused (entry_at applied.rest j) ≡ b → 1 ≤ j → IsUnnamed j applied.partitions
      → ((i : ℕ) → 1 ≤ i → IsTrue (is_used (entry_at g i)) → Asks i layout.asked.items ⊎ Contains layout.removed.items i) → IsTrue (is_unused (entry_at applied.rest j))
  left_by j true is low unnamed named = is
  left_by j false is low unnamed named =
      let still : ¬ IsTrue (is_unused (entry_at g j)) = λ unused.
      let no = removed_unused layout.removed.items (record g { align = applied.align }) applied.rest j applied.removed low unused in absurd (cc) in
      elim (named j low (used_of (is_unused (entry_at g j)) still)) [
        | inl asks ↦ absurd (has_unnamed j applied.partitions (asks_has g layout.mode layout.asked.items randoms applied.partitions j long applied.asked asks) unnamed)
        | inr removed ↦ removed_gone layout.removed.items (record g { align = applied.align }) applied.rest j removed.0 applied.removed low removed.1 removed.2
      ]

  left : (j : ℕ) → 1 ≤ j → IsUnnamed j applied.partitions → IsWhole layout g → IsTrue (is_unused (entry_at next j))
  left j low unnamed (inl mode) =
      let others = subst (λ (m : Mode). others_fault m applied.free ≡ None) mode applied.others in
      subst (λ (e : GPTPartitionEntry). IsTrue (is_unused e)) (sym (kept j low unnamed)) (others_unused applied.free j (lowest_used applied.free) refl others)
  left j low unnamed (inr named) =
      let before = cleared_keep applied.partitions applied.rest applied.free j applied.clear low unnamed in
      subst (λ (e : GPTPartitionEntry). IsTrue (is_unused e)) (sym (kept j low unnamed ∙ before)) (left_by j (is_unused (entry_at applied.rest j)) refl low unnamed named)

  covered_by : (m : ℕ) → IsTrue (is_used (get_or (entries_in next) m empty_entry)) → (HasNumber (suc m) applied.partitions ⊎ IsUnnamed (suc m) applied.partitions)
      → HasNumber (suc m) (those_there next applied.partitions)
  covered_by m used (inl has) = has_there next (suc m) applied.partitions has
  covered_by m used (inr unnamed) =
      let unused = left (suc m) (omega arith) unnamed whole in
      let here : IsTrue (is_unused (get_or (entries_in next) m empty_entry)) = subst (λ (e : GPTPartitionEntry). IsTrue (is_unused e)) (at_number next m (suc m) (omega arith)) unused in
      absurd (not_both (is_unused (get_or (entries_in next) m empty_entry)) here used)

  covers_next : CoversFrom (those_there next applied.partitions) 1 (entries_in next)
  covers_next = covers_from (those_there next applied.partitions) 1 (entries_in next) (λ m below used.
      let shift : suc m ≡ 1 + m = omega arith in
      subst (λ (n : ℕ). HasNumber n (those_there next applied.partitions)) shift (covered_by m used (named_or (suc m) applied.partitions)))

-- ---- the whole layout

module _ (g next : GPT) (layout again : RequestedLayout) (randoms others : List (List ℕ)) (numbered : AreNumbered layout.asked.items) (is_again : IsAgain layout again) (whole : IsWhole layout g)
    (long : length layout.asked.items ≤ length randoms) (more : length layout.asked.items ≤ length others) (applied : IsApplied layout randoms g next) (placed : All IsPlaced (entries_in next)) where
  abbrev own : List ResolvedPartition
  own = those_there next applied.partitions

  sector : next.sector_size ≡ g.sector_size
  sector = (done_keeps (Apply layout) randoms g next applied).sector

  found : AllFound next applied.partitions
  found =
      let put : length (entries_in applied.placed) ≡ length (entries_in applied.free) =
      put_same (λ (m : GPT). length (entries_in m)) (λ m i e. length-set (entries_in m) (i - 1) e) applied.partitions applied.free applied.placed applied.put in
      let extended : length (entries_in applied.last) ≡ length (entries_in applied.placed) =
      extended_same (λ (m : GPT). length (entries_in m)) (λ m i e. length-set (entries_in m) (i - 1) e) (rest_numbers layout.asked.items applied.partitions) applied.placed applied.last applied.extended in
      numbers_found applied.free next applied.partitions applied.placed applied.put (ap (λ (m : GPT). length (entries_in m)) applied.next_is ∙ (extended ∙ put)) placed

  differ : DifferInNumber applied.partitions
  differ = differ_put applied.partitions applied.free applied.placed applied.put (used_all g layout.mode layout.asked.items randoms applied.partitions applied.asked)

  resolves : resolved_all next (Become false) layout.asked.items others ≡ Ok own
  resolves = all_resolved_again g applied.free applied.placed next layout.mode layout.asked.items randoms others applied.partitions numbered long more sector found applied.asked
      (placed_there layout randoms g next applied) (last_end layout randoms g next applied) (exact layout randoms g next applied)

  resolves_again : resolved_all next again.mode again.asked.items others ≡ Ok own
  resolves_again =
      subst (λ (m : Mode). resolved_all next m again.asked.items others ≡ Ok own) (sym is_again.mode)
      (subst (λ (items : List Asked). resolved_all next (Become false) items others ≡ Ok own) (sym is_again.asked) resolves)

  owned : OwnedBy next own
  owned = all_again g applied.free applied.placed next layout.mode layout.asked.items randoms others applied.partitions own numbered long more sector applied.asked
      (placed_there layout randoms g next applied) (last_end layout randoms g next applied) (exact layout randoms g next applied) resolves

  once : DifferInNumber own
  once = differ_there next applied.partitions differ

  align_is : align_asked again.align next.sector_size ≡ Ok applied.align
  align_is = ap (λ (amount : Amount). align_asked amount next.sector_size) is_again.align ∙ (ap (align_asked layout.align) sector ∙ applied.is_align)

  taken_again : (r : Refusal) → ¬ RefusesAsked again others next r
  taken_again = not_refused_where next again others own applied.align resolves_again owned (covers_next layout randoms g next applied long whole) once is_again.mode is_again.removed align_is

not_written_again : (g : GPT) (len : ℕ) (r : Refusal) → MayBeWritten g len → ¬ RefusesCheck g r
not_written_again g len r may (shared clash told) = clash may.valid.own_guids
not_written_again g len r may (boundaries is bad told) = bad may.valid.boundaries

pub taken_twice : LayoutsAreTakenAgain
taken_twice g next len layout again request other r job job_again numbered is_again whole long more planned refused =
    let applied : IsApplied layout request.random.items g next = subst (λ (j : Job). IsDone j request.random.items g next) job planned.done in
    let enough : length layout.asked.items ≤ length request.random.items = subst (λ (j : Job). asks_random j (length request.random.items)) job long in
    let enough_again : length again.asked.items ≤ length other.random.items = subst (λ (j : Job). asks_random j (length other.random.items)) job_again more in
    let enough_other : length layout.asked.items ≤ length other.random.items = subst (λ (items : List Asked). length items ≤ length other.random.items) is_again.asked enough_again in
    let has = done_layout (Apply layout) request.random.items g next len applied planned.layout in
    let placed = all_placed next len has planned.may.valid in
    elim refused [
      | not_laid_out lacks told ↦ lacks has
      | not_done laid_out stop ↦
          taken_again g next layout again request.random.items other.random.items numbered is_again whole enough enough_other applied placed r
          (subst (λ (j : Job). RefusesJob j other.random.items next r) job_again stop)
      | not_written after laid_out done stop ↦
          let twice : IsApplied again other.random.items next after = subst (λ (j : Job). IsDone j other.random.items next after) job_again done in
          let same : after ≡ next = layouts_stay g next after layout again request.random.items other.random.items numbered is_again enough enough_other applied twice in
          not_written_again next len r planned.may (subst (λ (m : GPT). RefusesCheck m r) same stop)
    ]
