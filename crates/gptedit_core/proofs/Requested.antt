-- The place of a request for an entry.
use Rattle.std.proofs.Common.{◌≡◌, ◌≢◌, ◌⊎◌, inl, inr, ℕ, ◌+◌, ◌-◌, ◌^◌, ◌&&◌, refl, sym, ap, ◌∙◌, subst, arith, Bool, true, false}
use Rattle.std.specs.Prelude.{Option, Some, None, Result, Ok, Err, max, nat_eq, nat_le, nat_lt, if◌then◌else◌}
use Rattle.std.proofs.lemmas.Bool.{eq-eqb, eqb-true, leb-true}
use Rattle.gptman.specs.declared.codec.entry.GPTPartitionEntry.{GPTPartitionEntry}
use Rattle.gptman.specs.declared.table.GPT.{GPT}
use Rattle.gptedit_core.specs.Applying.{asks_rest}
use Rattle.gptedit_core.specs.Dumping.{asked_of, more_sectors}
use Rattle.gptedit_core.specs.Placing.{IsSpan}
use Rattle.gptedit_core.specs.Resolving.{place_asked, place_of, rest_of, room_asked, span_from, start_asked, stay_fault, there_of, unless}
use Rattle.gptedit_core.specs.Sectors.{between}
use Rattle.gptedit_core.specs.declared.asked.Asked.{Asked}
use Rattle.gptedit_core.specs.declared.asked.Choice.{Choice}
use Rattle.gptedit_core.specs.declared.asked.Choice.TheVariants.{First}
use Rattle.gptedit_core.specs.declared.asked.Mode.{Mode}
use Rattle.gptedit_core.specs.declared.asked.Mode.TheVariants.{Become}
use Rattle.gptedit_core.specs.declared.asked.Size.{Size}
use Rattle.gptedit_core.specs.declared.asked.Size.TheVariants.{Exactly, Rest}
use Rattle.gptedit_core.specs.declared.amount.Amount.TheVariants.{Sectors}
use Rattle.gptedit_core.specs.declared.place.Place.{Place}
use Rattle.gptedit_core.specs.declared.place.Place.TheVariants.{At, From, Free}
use Rattle.gptedit_core.specs.declared.refusal.Refusal.{Refusal}
use Rattle.gptedit_core.specs.declared.refusal.Refusal.TheVariants.{NoSize, TooLarge}
use Rattle.gptedit_core.specs.declared.resolve.Room.{Room}
use Rattle.gptedit_core.specs.declared.resolve.Room.TheVariants.{Sectors as RoomSectors, Rest as RoomRest}
use Rattle.gptedit_core.specs.declared.sectors.SectorRange.{SectorRange}
use Rattle.gptedit_core.proofs.Steps.{and_then_ok}

span_by : (i first more : ℕ) (b : Bool) (place : Place) → ◌≡◌ {A = Result Place Refusal} (if b then Ok (At first (first + more)) else Err (TooLarge i)) (Ok place) → At first (first + more) ≡ place
span_by i first more true place is = cc
span_by i first more false place is = absurd (cc)

-- The sectors of a place from first on.
pub span_at : (i first more : ℕ) (place : Place) (g : GPT) (s : SectorRange) → span_from i first more ≡ Ok place → IsSpan place g s → s ≡ between first (first + more)
span_at i first more place g s is span = subst (λ (p : Place). IsSpan p g s) (sym (span_by i first more (nat_lt (first + more) (2 ^ 64)) place is)) span

pub sized_by : (i : ℕ) (b : Bool) (r : Result Place Refusal) (place : Place) → ◌≡◌ {A = Result Place Refusal} (if b then r else Err (NoSize i)) (Ok place) → r ≡ Ok place
sized_by i true r place is = is
sized_by i false r place is = absurd (cc)

-- The rest starts at the requested start.
begins_by : (x : ℕ) (there s : SectorRange) (g : GPT) (b : Bool) → nat_eq x there.first ≡ b → IsSpan (if b then At there.first there.last else From x) g s → s.first ≡ x
begins_by x there s g true is span = ap (λ (p : SectorRange). p.first) span ∙ sym (eqb-true x there.first is)
begins_by x there s g false is span = ap (λ (p : SectorRange). p.first) span.2

pub begins : (x : ℕ) (there : Option SectorRange) (s : SectorRange) (g : GPT) → IsSpan (rest_of (Some x) there) g s → s.first ≡ x
begins x None s g span = ap (λ (p : SectorRange). p.first) span.2
begins x (Some there) s g span = begins_by x there s g (nat_eq x there.first) refl span

-- A request whose room is not the rest does not ask for it.
pub not_rest : {X : Type 0} (size : Option Size) (i ss : ℕ) (room : Option Room) → room_asked size i ss ≡ Ok room → (asks_rest size ≡ false → X) → room ≢ Some RoomRest → X
not_rest None i ss room is exact other = exact refl
not_rest (Some (Exactly amount)) i ss room is exact other = exact refl
not_rest (Some Rest) i ss room is exact other = let same : Some RoomRest ≡ room = cc in absurd (other (sym same))

pub unless_ok : {A : Type 0} (o : Option Refusal) (a b : A) → unless o a ≡ Ok b → (o ≡ None) × (a ≡ b)
unless_ok None a b is = let same : a ≡ b = cc in (refl, same)
unless_ok (Some r) a b is = absurd (cc)

-- ---- the number of sectors of an entry

more_if : (b : Bool) (n : ℕ) → ((if b then n else 0) ≡ 0) ⊎ ((b ≡ true) × ((if b then n else 0) ≡ n))
more_if true n = inr (refl, refl)
more_if false n = inl refl

both_left : (a b : Bool) → (a && b) ≡ true → a ≡ true
both_left true b is = refl
both_left false b is = absurd (cc)

pub more_ends : (first last : ℕ) → (more_sectors first last ≡ 0) ⊎ (first + (more_sectors first last - 1) ≡ last)
more_ends first last = elim (more_if (nat_le first last && nat_lt (last - first) (2 ^ 64 - 1)) (last - first + 1)) [
  | inl none ↦ inl none
  | inr some ↦ inr (omega (arith, some.1, leb-true first last (both_left (nat_le first last) (nat_lt (last - first) (2 ^ 64 - 1)) some.0)))
]

-- ---- the place of a used entry that is requested unchanged

room_by : (i ss n : ℕ) (b : Bool) (room : Option Room) → nat_eq n 0 ≡ b → ◌≡◌ {A = Result (Option Room) Refusal} (if b then Err (NoSize i) else Ok (Some (RoomSectors n))) (Ok room)
    → (n ≢ 0) × (Some (RoomSectors n) ≡ room)
room_by i ss n true room none is = absurd (cc)
room_by i ss n false room some is = let same : Some (RoomSectors n) ≡ room = cc in (λ zero. let both : nat_eq n 0 ≡ true = ap (λ (m : ℕ). nat_eq m 0) zero in absurd (cc), same)

own_span : (i n first last : ℕ) (place : Place) → n ≢ 0 → (n ≡ 0) ⊎ (first + (n - 1) ≡ last) → span_from i first (n - 1) ≡ Ok place → place ≡ At first last
own_span i n first last place some (inl none) is = absurd (some none)
own_span i n first last place some (inr end) is = sym (span_by i first (n - 1) _ place is) ∙ ap (λ (m : ℕ). At first m) end

pub own_place : (i ss : ℕ) (e : GPTPartitionEntry) (place : Place) → place_asked (Become false) (asked_of i e) i (Some e) ss ≡ Ok place → place ≡ At e.starting_lba e.ending_lba
own_place i ss e place is =
    let first : ℕ = e.starting_lba in
    let n : ℕ = more_sectors first e.ending_lba in
    let room = and_then_ok (room_asked (Some (Exactly (Sectors n))) i ss) _ place is in
    let sized = room_by i ss n (nat_eq n 0) room.0 refl room.1 in
    let at = and_then_ok (place_of i room.0 (Some first) (there_of (Some e)) First) _ place room.2 in
    let stay = unless_ok (stay_fault (Become false) i (there_of (Some e)) at.0) at.0 place at.2 in
    let here : span_from i first (n - 1) ≡ Ok at.0 = subst (λ (r : Option Room). place_of i r (Some first) (there_of (Some e)) First ≡ Ok at.0) (sym sized.1) at.1 in
    sym stay.1 ∙ own_span i n first e.ending_lba at.0 sized.0 (more_ends first e.ending_lba) here

-- ---- the place of an entry that is requested again

-- It is unchanged, whatever was requested. Only one that gets the rest may have been put with another end.
module _ (i first end last : ℕ) (choice : Choice) (g : GPT) where
  same_span : (n x : ℕ) (now : Place) → first ≡ x → end ≡ x + n → end ≡ last → span_from i first n ≡ Ok now → now ≡ At first last
  same_span n x now low high same is =
      let whole : first + n ≡ last = omega (arith, low, high, same) in
      sym (span_by i first n _ now is) ∙ ap (λ (m : ℕ). At first m) whole

  place_same : (room : Option Room) (start : Option ℕ) (there : Option SectorRange) (place now : Place) → place_of i room start there choice ≡ Ok place
      → IsSpan place g (between first end) → (room ≢ Some RoomRest → end ≡ last) → place_of i room start (Some (between first last)) choice ≡ Ok now → now ≡ At first last
  place_same (Some (RoomSectors n)) (Some x) there place now is span exact again =
      let s = span_at i x (n - 1) place g (between first end) is span in
      let low : first ≡ x = ap (λ (p : SectorRange). p.first) s in
      let high : end ≡ x + (n - 1) = ap (λ (p : SectorRange). p.last) s in
      same_span (n - 1) x now low high (exact (λ rest. absurd (cc))) (subst (λ (y : ℕ). span_from i y (n - 1) ≡ Ok now) (sym low) again)
  place_same (Some (RoomSectors n)) None (Some there) place now is span exact again =
      let s = span_at i there.first (n - 1) place g (between first end) is span in
      let low : first ≡ there.first = ap (λ (p : SectorRange). p.first) s in
      let high : end ≡ there.first + (n - 1) = ap (λ (p : SectorRange). p.last) s in
      same_span (n - 1) there.first now low high (exact (λ rest. absurd (cc))) again
  place_same (Some (RoomSectors n)) None None place now is span exact again =
      let same : Free n choice ≡ place = cc in
      let free : IsSpan (Free n choice) g (between first end) = subst (λ (p : Place). IsSpan p g (between first end)) (sym same) span in
      let at : end ≡ first + (max 1 n - 1) = free.1 in
      same_span (n - 1) first now refl (omega (arith, at)) (exact (λ rest. absurd (cc))) again
  place_same (Some RoomRest) None there place now is span exact again = let same : At first last ≡ now = cc in sym same
  place_same (Some RoomRest) (Some x) there place now is span exact again =
      let same : rest_of (Some x) there ≡ place = cc in
      let low = begins x there (between first end) g (subst (λ (p : Place). IsSpan p g (between first end)) (sym same) span) in
      let here : rest_of (Some x) (Some (between first last)) ≡ now = cc in
      sym here ∙ rw (eq-eqb x first (sym low)) refl
  place_same None None (Some there) place now is span exact again = let same : At first last ≡ now = cc in sym same
  place_same None None None place now is span exact again = absurd (cc)
  place_same None (Some x) None place now is span exact again = absurd (cc)
  place_same None (Some x) (Some there) place now is span exact again =
      let more : ℕ = there.last - there.first in
      let s = span_at i x more place g (between first end) (sized_by i (nat_le there.first there.last) _ place is) span in
      let low : first ≡ x = ap (λ (p : SectorRange). p.first) s in
      let high : end ≡ x + more = ap (λ (p : SectorRange). p.last) s in
      let same : end ≡ last = exact (λ rest. absurd (cc)) in
      let now_at : span_from i x (last - first) ≡ Ok now = sized_by i (nat_le first last) _ now again in
      let whole : end ≡ x + (last - first) = omega (arith, low, high, same) in
      same_span (last - first) x now low whole same (subst (λ (y : ℕ). span_from i y (last - first) ≡ Ok now) (sym low) now_at)

  -- So is the requested place of an entry y with these sectors.
  pub asked_same : (mode : Mode) (a : Asked) (used : Option GPTPartitionEntry) (ss : ℕ) (place now : Place) (y : GPTPartitionEntry) → a.choice ≡ choice
      → y.starting_lba ≡ first → y.ending_lba ≡ last → place_asked mode a i used ss ≡ Ok place → IsSpan place g (between first end)
      → (asks_rest a.size ≡ false → end ≡ last) → place_asked (Become false) a i (Some y) ss ≡ Ok now → now ≡ At first last
  asked_same mode a used ss place now y chosen low high is span exact again =
      let start = and_then_ok (start_asked a.start ss) _ place is in
      let room = and_then_ok (room_asked a.size i ss) _ place start.2 in
      let at = and_then_ok (place_of i room.0 start.0 (there_of used) a.choice) _ place room.2 in
      let stay = unless_ok (stay_fault mode i (there_of used) at.0) at.0 place at.2 in
      let start_again = and_then_ok (start_asked a.start ss) _ now again in
      let room_again = and_then_ok (room_asked a.size i ss) _ now start_again.2 in
      let at_again = and_then_ok (place_of i room_again.0 start_again.0 (there_of (Some y)) a.choice) _ now room_again.2 in
      let stay_again = unless_ok (stay_fault (Become false) i (there_of (Some y)) at_again.0) at_again.0 now at_again.2 in
      let starts : Ok start_again.0 ≡ Ok start.0 = sym start_again.1 ∙ start.1 in
      let same_start : start_again.0 ≡ start.0 = cc in
      let rooms : Ok room_again.0 ≡ Ok room.0 = sym room_again.1 ∙ room.1 in
      let same_room : room_again.0 ≡ room.0 = cc in
      let here : place_of i room.0 start.0 (there_of used) choice ≡ Ok at.0 = subst (λ (c : Choice). place_of i room.0 start.0 (there_of used) c ≡ Ok at.0) chosen at.1 in
      let there : place_of i room.0 start.0 (Some (between first last)) choice ≡ Ok at_again.0 =
      subst (λ (c : Choice). place_of i room.0 start.0 (Some (between first last)) c ≡ Ok at_again.0) chosen
      (subst (λ (x : ℕ). place_of i room.0 start.0 (Some (between x last)) a.choice ≡ Ok at_again.0) low
      (subst (λ (x : ℕ). place_of i room.0 start.0 (Some (between y.starting_lba x)) a.choice ≡ Ok at_again.0) high
      (subst (λ (s : Option ℕ). place_of i room.0 s (there_of (Some y)) a.choice ≡ Ok at_again.0) same_start
      (subst (λ (r : Option Room). place_of i r start_again.0 (there_of (Some y)) a.choice ≡ Ok at_again.0) same_room at_again.1)))) in
      sym stay_again.1 ∙ place_same room.0 start.0 (there_of used) at.0 at_again.0 here (subst (λ (p : Place). IsSpan p g (between first end)) (sym stay.1) span)
      (not_rest a.size i ss room.0 room.1 exact) there
