-- The layout of a setting changes exactly one entry.
use Rattle.std.proofs.Common.{◌≡◌, ◌<◌, ◌+◌, ◌-◌, ◌^◌, ◌⊎◌, inl, inr, ℕ, zero, suc, Bool, true, false, List, [], ◌∷◌, length, refl, sym, ap, ◌∙◌, subst, arith}
use Rattle.std.specs.Prelude.{Option, Some, None, Result, Ok, Err, nat_eq, nat_lt, slice_set, unwrap_or, if◌then◌else◌}
use Rattle.std.proofs.lemmas.Bool.{cases_eq, eq-eqb}
use Rattle.gptman.specs.Coding.{empty_entry}
use Rattle.gptman.specs.Entry.{is_unused}
use Rattle.gptman.specs.Number.{entry_of_number, with_entries, with_entry}
use Rattle.gptman.specs.Table.{entries_in}
use Rattle.gptman.specs.declared.codec.entry.GPTPartitionEntry.{GPTPartitionEntry}
use Rattle.gptman.specs.declared.table.GPT.{GPT}
use Rattle.gptedit_core.specs.Applying.{cleared, is_blank, removed_all, removed_one, asks_rest, rest_numbers, without_entry, AreExtended, ArePut, IsApplied}
use Rattle.gptedit_core.specs.Dumping.{asked_of, more_sectors}
use Rattle.gptedit_core.specs.Placing.{IsSpan}
use Rattle.gptedit_core.specs.Resolving.{and_then, place_asked, place_of, resolved, resolved_all, stay_fault, there_of, unless, used_at}
use Rattle.gptedit_core.specs.Sectors.{between}
use Rattle.gptedit_core.specs.Setting.{number_after, IsChangeOf, IsMoveOf, IsSettingOf, SettingsChangeOne}
use Rattle.gptedit_core.specs.declared.asked.Asked.{Asked}
use Rattle.gptedit_core.specs.declared.asked.Choice.TheVariants.{First}
use Rattle.gptedit_core.specs.declared.asked.Mode.{Mode}
use Rattle.gptedit_core.specs.declared.asked.Mode.TheVariants.{Add, Change}
use Rattle.gptedit_core.specs.declared.asked.RequestedLayout.{RequestedLayout}
use Rattle.gptedit_core.specs.declared.place.Place.{Place}
use Rattle.gptedit_core.specs.declared.place.Place.TheVariants.{At}
use Rattle.gptedit_core.specs.declared.refusal.Refusal.{Refusal}
use Rattle.gptedit_core.specs.declared.refusal.Refusal.TheVariants.{IsUnused, NoEntry, NoSize, TooLarge}
use Rattle.gptedit_core.specs.declared.resolve.ResolvedPartition.{ResolvedPartition}
use Rattle.gptedit_core.specs.declared.resolve.Room.{Room}
use Rattle.gptedit_core.specs.declared.resolve.Room.TheVariants.{Sectors as RoomSectors}
use Rattle.gptedit_core.specs.declared.sectors.SectorRange.{SectorRange}
use Rattle.gptedit_core.specs.declared.setting.Setting.{Setting}
use Rattle.gptedit_core.proofs.Requested.{more_ends}
use Rattle.gptedit_core.proofs.Again.{is_first, place_first, used_of}
use Rattle.gptedit_core.proofs.Dumped.{used_is}
use Rattle.gptedit_core.proofs.Steps.{and_then_ok, else_ok}

-- ---- the place

then_ok : {A : Type 0} (test : Bool) (r : Refusal) (x p : A) → (if test then Ok x else Err r) ≡ Ok p → x ≡ p
then_ok true r x p is = cc
then_ok false r x p is = absurd (cc)

no_fault : (place q : Place) → ◌≡◌ {A = Result Place Refusal} (unless None place) (Ok q) → place ≡ q
no_fault place q is = cc

-- A request with this start and size, for an entry that is added, is for these sectors.
added_at : (m n first last : ℕ) (there : Option SectorRange) (place : Place) → (n ≡ 0) ⊎ (first + (n - 1) ≡ last)
    → and_then {A = Option Room} (if nat_eq n 0 then Err (NoSize m) else Ok (Some (RoomSectors n)))
    (λ room. and_then (place_of m room (Some first) there First) (λ at. unless (stay_fault Add m there at) at)) ≡ Ok place
    → place ≡ At first last
added_at m n first last there place ends is =
    let at_of : Option Room → Result Place Refusal = λ room. and_then (place_of m room (Some first) there First) (λ at. unless (stay_fault Add m there at) at) in
    let room = and_then_ok {A = Option Room} (if nat_eq n 0 then Err (NoSize m) else Ok (Some (RoomSectors n))) at_of place is in
    let some = else_ok (nat_eq n 0) (NoSize m) (Some (RoomSectors n)) room.0 room.1 in
    let here : at_of (Some (RoomSectors n)) ≡ Ok place = subst (λ (r : Option Room). at_of r ≡ Ok place) (sym some.1) room.2 in
    let at = and_then_ok (place_of m (Some (RoomSectors n)) (Some first) there First) (λ at. unless (stay_fault Add m there at) at) place here in
    let span : At first (first + (n - 1)) ≡ at.0 = then_ok (nat_lt (first + (n - 1)) (2 ^ 64)) (TooLarge m) (At first (first + (n - 1))) at.0 at.1 in
    elim ends [
      | inl none ↦ absurd (some.0 (eq-eqb n 0 none))
      | inr whole ↦ sym (no_fault at.0 place at.2) ∙ (sym span ∙ ap (At first) whole)
    ]

-- ---- the partition of the one request

pub record IsOnePart (g : GPT) (mode : Mode) (a : Asked) (i : ℕ) (partitions : List ResolvedPartition) : Type 0 where
  pub p : ResolvedPartition
  pub is : partitions ≡ p ∷ []
  pub number : p.number ≡ i
  pub x : GPTPartitionEntry
  pub entry : p.entry ≡ record x {
    partition_type_guid = unwrap_or a.type_guid x.partition_type_guid;
    unique_partition_guid = unwrap_or a.unique_guid x.unique_partition_guid;
    attribute_bits = unwrap_or a.attributes x.attribute_bits;
    partition_name = unwrap_or a.name x.partition_name;
  }
  pub place : place_asked mode a i (used_at g i) g.sector_size ≡ Ok p.place

one_part : (g : GPT) (mode : Mode) (a : Asked) (i : ℕ) (randoms : List (List ℕ)) (ps : List ResolvedPartition) → a.number ≡ Some i → 0 < length randoms
    → resolved_all g mode (a ∷ []) randoms ≡ Ok ps → IsOnePart g mode a i ps
one_part g mode a i [] ps number some is = absurd (omega (arith, some))
one_part g mode a i (random ∷ randoms) ps number some is =
    let first = and_then_ok (resolved g mode a random) (λ p. and_then (resolved_all g mode [] randoms) (λ ps. Ok (p ∷ ps))) ps is in
    let p : ResolvedPartition = first.0 in
    let all : ◌≡◌ {A = Result (List ResolvedPartition) Refusal} (Ok (p ∷ [])) (Ok ps) = first.2 in
    let same : p ∷ [] ≡ ps = cc in
    let one = is_first g mode a random i p number first.1 in
    let at = place_first g mode a random p first.1 in
    record {
      p = p;
      is = sym same;
      number = sym one.number;
      x = one.x;
      entry = one.entry;
      place = subst (λ (n : ℕ). place_asked mode a n (used_at g n) g.sector_size ≡ Ok p.place) (sym one.number) at;
    }

-- ---- the table

same_table : (g h : GPT) → ◌≡◌ {A = Result GPT Refusal} (Ok g) (Ok h) → g ≡ h
same_table g h is = cc

set_twice : {X : Type 0} (xs : List X) (k : ℕ) (a b : X) → slice_set (slice_set xs k a) k b ≡ slice_set xs k b
set_twice [] k a b = refl
set_twice (x ∷ xs) zero a b = refl
set_twice (x ∷ xs) (suc k) a b = ap (λ ys. x ∷ ys) (set_twice xs k a b)

-- One entry was cleared.
clear_one : (g free : GPT) (p : ResolvedPartition) (found : Option GPTPartitionEntry)
    → ◌≡◌ {A = Result GPT Refusal} (elim found [ None ↦ Err (NoEntry p.number) | Some e ↦ Ok (with_entry g p.number empty_entry) ]) (Ok free) → free ≡ with_entry g p.number empty_entry
clear_one g free p None is = absurd (cc)
clear_one g free p (Some e) is = cc

-- The entry of a partition that was put at these sectors.
put_entry : (p : ResolvedPartition) (x after : GPTPartitionEntry) (g : GPT) (range : SectorRange) → p.entry ≡ record x {
  partition_type_guid = after.partition_type_guid;
  unique_partition_guid = after.unique_partition_guid;
  attribute_bits = after.attribute_bits;
  partition_name = after.partition_name;
} → p.place ≡ At after.starting_lba after.ending_lba → IsSpan p.place g range
    → record p.entry { starting_lba = range.first; ending_lba = range.last } ≡ after
put_entry p x after g range entry place span =
    let at : range ≡ between after.starting_lba after.ending_lba = subst (λ (q : Place). IsSpan q g range) place span in
    λ k. record (entry k) { starting_lba = (at k).first; ending_lba = (at k).last }

-- A request of one entry that does not ask for the rest lengthens none.
no_rest : (asked : List Asked) (a : Asked) (ps : List ResolvedPartition) (p : ResolvedPartition) → asked ≡ a ∷ [] → ps ≡ p ∷ [] → asks_rest a.size ≡ false
    → rest_numbers asked ps ≡ []
no_rest asked a ps p is_asked is_ps fixed =
    let one : rest_numbers (a ∷ []) (p ∷ []) ≡ [] = λ k. if fixed k then p.number ∷ [] else [] in
    subst (λ (l : List Asked). rest_numbers l ps ≡ []) (sym is_asked) (subst (λ (q : List ResolvedPartition). rest_numbers (a ∷ []) q ≡ []) (sym is_ps) one)

-- The table after one entry was cleared and put.
module _ (layout : RequestedLayout) (randoms : List (List ℕ)) (g next : GPT) (is : IsApplied layout randoms g next) (a : Asked) (i : ℕ) (after : GPTPartitionEntry) where
  put_one : (one : IsOnePart g layout.mode a i is.partitions) → a.type_guid ≡ Some after.partition_type_guid → a.unique_guid ≡ Some after.unique_partition_guid
      → a.attributes ≡ Some after.attribute_bits → a.name ≡ Some after.partition_name → one.p.place ≡ At after.starting_lba after.ending_lba → layout.disk_guid ≡ None
      → layout.asked.items ≡ a ∷ [] → asks_rest a.size ≡ false
      → next ≡ record (with_entry (with_entry is.rest i empty_entry) i after) { align = g.align }
  put_one one type guid attributes name place keeps asks fixed =
      let p : ResolvedPartition = one.p in
      let cleared_is : cleared (p ∷ []) is.rest ≡ Ok is.free = subst (λ (ps : List ResolvedPartition). cleared ps is.rest ≡ Ok is.free) one.is is.clear in
      let free : is.free ≡ with_entry is.rest p.number empty_entry = clear_one is.rest is.free p (entry_of_number is.rest p.number) cleared_is in
      let put : ArePut (p ∷ []) is.free is.placed = subst (λ (ps : List ResolvedPartition). ArePut ps is.free is.placed) one.is is.put in
      let long : is.last ≡ is.placed = subst (λ (l : List ℕ). AreExtended l is.placed is.last) (no_rest layout.asked.items a is.partitions p asks one.is fixed) is.extended in
      let entry : p.entry ≡ record one.x {
        partition_type_guid = after.partition_type_guid;
        unique_partition_guid = after.unique_partition_guid;
        attribute_bits = after.attribute_bits;
        partition_name = after.partition_name;
      } = one.entry ∙ (λ k. record one.x {
        partition_type_guid = unwrap_or (type k) one.x.partition_type_guid;
        unique_partition_guid = unwrap_or (guid k) one.x.unique_partition_guid;
        attribute_bits = unwrap_or (attributes k) one.x.attribute_bits;
        partition_name = unwrap_or (name k) one.x.partition_name;
      }) in
      let here = put_entry p one.x after is.free put.1.range entry place put.1.span in
      let last : is.last ≡ with_entry (with_entry is.rest i empty_entry) i after =
      long ∙ (put.2 ∙ (put.1.next_is ∙ (λ k. with_entry (free k) (one.number k) (here k)) ∙ (λ k. with_entry (with_entry is.rest (one.number k) empty_entry) i after))) in
      is.next_is ∙ (λ k. record (last k) { align = g.align; header = record (last k).header { disk_guid = unwrap_or (keeps k) (last k).header.disk_guid } })

-- ---- an entry that stays at its number

abbrev in_place : ℕ → GPTPartitionEntry → Asked
in_place i after = record (asked_of i after) { start = None; size = None }

stays_there : (i ss : ℕ) (before after : GPTPartitionEntry) (place : Place) → after.starting_lba ≡ before.starting_lba → after.ending_lba ≡ before.ending_lba
    → place_asked Change (in_place i after) i (Some before) ss ≡ Ok place → place ≡ At after.starting_lba after.ending_lba
stays_there i ss before after place first last is =
    let here : ◌≡◌ {A = Result Place Refusal} (Ok (At before.starting_lba before.ending_lba)) (Ok place) = is in
    let same : At before.starting_lba before.ending_lba ≡ place = cc in
    sym same ∙ (ap (λ (x : ℕ). At x before.ending_lba) (sym first) ∙ ap (λ (x : ℕ). At after.starting_lba x) (sym last))

set_there : (g next : GPT) (i : ℕ) (setting : Setting) (random : List ℕ) (layout : RequestedLayout) (randoms : List (List ℕ)) (s : IsSettingOf g i setting random layout)
    → IsChangeOf i s.after layout → 0 < length randoms → IsApplied layout randoms g next → next ≡ with_entry (with_entry g i empty_entry) i s.after
set_there g next i setting random layout randoms s c some is =
    let a : Asked = in_place i s.after in
    let asked : resolved_all g layout.mode (a ∷ []) randoms ≡ Ok is.partitions = subst (λ (asked : List Asked). resolved_all g layout.mode asked randoms ≡ Ok is.partitions) c.asked is.asked in
    let one = one_part g layout.mode a i randoms is.partitions refl some asked in
    let used : used_at g i ≡ Some s.before = used_is g i s.before s.there (used_of (is_unused s.before) s.used) in
    let at : place_asked Change a i (Some s.before) g.sector_size ≡ Ok one.p.place =
    subst (λ (u : Option GPTPartitionEntry). place_asked Change a i u g.sector_size ≡ Ok one.p.place) used
    (subst (λ (m : Mode). place_asked m a i (used_at g i) g.sector_size ≡ Ok one.p.place) c.mode one.place) in
    let place = stays_there i g.sector_size s.before s.after one.p.place s.set.first s.set.last at in
    let whole : GPT = record g { align = is.align } in
    let none : ◌≡◌ {A = Result GPT Refusal} (Ok whole) (Ok is.rest) = subst (λ (l : List ℕ). removed_all l whole ≡ Ok is.rest) c.removed is.removed in
    let rest : whole ≡ is.rest = same_table whole is.rest none in
    put_one layout randoms g next is a i s.after one refl refl refl refl place s.disk_guid c.asked refl
    ∙ ap (λ (h : GPT). record (with_entry (with_entry h i empty_entry) i s.after) { align = g.align }) (sym rest)

-- ---- an entry that gets another number

set_elsewhere : (g next : GPT) (i j : ℕ) (setting : Setting) (random : List ℕ) (layout : RequestedLayout) (randoms : List (List ℕ)) (s : IsSettingOf g i setting random layout)
    → IsMoveOf i j s.after layout → 0 < length randoms → IsApplied layout randoms g next → next ≡ with_entry (with_entry g i empty_entry) j s.after
set_elsewhere g next i j setting random layout randoms s m some is =
    let a : Asked = asked_of j s.after in
    let asked : resolved_all g layout.mode (a ∷ []) randoms ≡ Ok is.partitions = subst (λ (asked : List Asked). resolved_all g layout.mode asked randoms ≡ Ok is.partitions) m.asked is.asked in
    let one = one_part g layout.mode a j randoms is.partitions refl some asked in
    let at : place_asked Add a j (used_at g j) g.sector_size ≡ Ok one.p.place =
    subst (λ (m : Mode). place_asked m a j (used_at g j) g.sector_size ≡ Ok one.p.place) m.mode one.place in
    let first : ℕ = s.after.starting_lba in
    let last : ℕ = s.after.ending_lba in
    let place = added_at j (more_sectors first last) first last (there_of (used_at g j)) one.p.place (more_ends first last) at in
    let whole : GPT = record g { align = is.align } in
    let removed = and_then_ok (removed_one i whole) (removed_all []) is.rest (subst (λ (l : List ℕ). removed_all l whole ≡ Ok is.rest) m.removed is.removed) in
    let found : without_entry i whole (Some s.before) ≡ Ok removed.0 = subst (λ (o : Option GPTPartitionEntry). without_entry i whole o ≡ Ok removed.0) s.there removed.1 in
    let gone : with_entry whole i empty_entry ≡ removed.0 = (else_ok (is_blank s.before) (IsUnused i) (with_entry whole i empty_entry) removed.0 found).1 in
    let same : removed.0 ≡ is.rest = same_table removed.0 is.rest removed.2 in
    put_one layout randoms g next is a j s.after one refl refl refl refl place s.disk_guid m.asked refl
    ∙ (ap (λ (h : GPT). record (with_entry (with_entry h j empty_entry) j s.after) { align = g.align }) (sym (gone ∙ same))
    ∙ ap (with_entries g) (set_twice (entries_in (with_entry g i empty_entry)) (j - 1) empty_entry s.after))

pub settings_change : SettingsChangeOne
settings_change g next i setting random layout randoms s some is =
    let j : ℕ = number_after setting i in
    record {
      before = s.before;
      there = s.there;
      after = s.after;
      set = s.set;
      next_is = elim (cases_eq j i) [
        | inl same ↦ set_there g next i setting random layout randoms s (s.stays same) some is ∙ ap (λ (n : ℕ). with_entry (with_entry g i empty_entry) n s.after) (sym same)
        | inr other ↦ set_elsewhere g next i j setting random layout randoms s (s.moves other) some is
      ];
    }
