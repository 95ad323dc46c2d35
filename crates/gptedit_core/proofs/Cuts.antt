-- The free slots after some sectors are taken.
use Prim.Native.Nat.{◌∣◌}
use Rattle.std.proofs.Common.{add-one, drop, drop-cons, length-drop, length-take, get_or-drop, get_or-take, ◌≡◌, ℕ, zero, suc, ◌+◌, ◌-◌, ◌%◌, ◌<◌, ◌≤◌, min, max, nat_lt, List, [], ◌∷◌, ◌++◌, length, get_or, take, append_assoc, ◌⊎◌, inl, inr, Option, Some, None, option_map, refl, sym, ap, ◌∙◌, subst, arith}
use Rattle.std.specs.List.{All, AllPairs, Contains, flat_map}
use Rattle.std.specs.Option.{option_to_list}
use Rattle.std.proofs.lemmas.Bool.{cases_lt, cond_above, cond_below, ltb-true}
use Rattle.std.proofs.lemmas.List.{append-nil, get_or_default, length-map, take-append-drop, take_more}
use Rattle.std.proofs.lemmas.List.Concat.{flat_map-append}
use Rattle.std.proofs.lemmas.List.Elements.{All-append, All-cons, All-head, All-nil, All-tail, All-weaker, Contains-append_left, Contains-append_right}
use Rattle.std.proofs.lemmas.List.Kept.{AllPairs-cons}
use Rattle.std.proofs.lemmas.Option.{cond_some}
use Rattle.gptman.specs.Place.{AreSlots, IsAlignedSlot, IsFirstMultiple, IsPlace, IsRun}
use Rattle.gptman.proofs.FreeRuns.{slot_free, slot_of_run}
use Rattle.gptman.proofs.Multiples.{first_here, first_later, one_first_multiple}
use Rattle.gptman.proofs.Pairs.{AllPairs-head, AllPairs-nil, AllPairs-tail}
use Rattle.gptman.proofs.Places.{around, IsSettled}
use Rattle.gptedit_core.specs.Sectors.{pair_of, pairs_of}
use Rattle.gptedit_core.specs.Slots.{HasSpan, before_of, behind_of, rest_of, round_up}
use Rattle.gptedit_core.specs.declared.sectors.Slot.{Slot}
use Rattle.gptedit_core.proofs.Pairs.{at_pair, more_pairs, put_pairs}

-- ---- the first multiple

round_up_by : (align x : ℕ) → 0 < align → IsFirstMultiple align x (round_up align x)
round_up_by align x positive = elim (cases_lt 0 (x % align)) [
  | inl over ↦ subst (λ (s : ℕ). IsFirstMultiple align x s) (cond_below 0 (x % align) (x + (align - x % align)) x over) (first_later align x positive over)
  | inr even ↦ subst (λ (s : ℕ). IsFirstMultiple align x s) (cond_above 0 (x % align) (x + (align - x % align)) x x even refl) (first_here align x positive (omega arith))
]

pub round_up_is : (align x s : ℕ) → 0 < align → IsFirstMultiple align x s → round_up align x ≡ s
round_up_is align x s positive first = one_first_multiple align x (round_up align x) s (round_up_by align x positive) first

-- ---- the runs

-- The sectors from first to last are free in F and not in G.
pub record IsLess (F G : ℕ → Type 0) (first last : ℕ) : Type 0 where
  pub down : (x : ℕ) → G x → F x
  pub out : (x : ℕ) → first ≤ x → x ≤ last → ¬ G x
  pub back : (x : ℕ) → F x → (x < first) ⊎ (last < x) → G x

module _ (F G : ℕ → Type 0) (first last : ℕ) (less : IsLess F G first last) (ordered : first ≤ last) where
  -- The part of a run before the sectors is a run.
  run_before : (a b : ℕ) → IsRun F a b → a < first → IsRun G a (min b (first - 1))
  run_before a b run low =
      let up = run.ordered in
      record {
        ordered = omega arith;
        inside = λ x from to. less.back x (run.inside x from (omega arith)) (inl (omega arith));
        before = λ x next free. run.before x next (less.down x free);
        after = λ free. elim (cases_lt b first) [
          | inl within ↦
              let e : min b (first - 1) ≡ b = omega arith in
              run.after (less.down (b + 1) (subst (λ (y : ℕ). G (y + 1)) e free))
          | inr past ↦ less.out (min b (first - 1) + 1) (omega arith) (omega arith) free
        ];
      }

  -- The part of a run after the sectors is a run.
  run_behind : (a b : ℕ) → IsRun F a b → last < b → IsRun G (max a (last + 1)) b
  run_behind a b run high =
      let up = run.ordered in
      record {
        ordered = omega arith;
        inside = λ x from to. less.back x (run.inside x (omega arith) to) (inr (omega arith));
        before = λ x next free. elim (cases_lt last a) [
          | inl apart ↦ run.before x (omega arith) (less.down x free)
          | inr over ↦ less.out x (omega arith) (omega arith) free
        ];
        after = λ free. run.after (less.down (b + 1) free);
      }

  -- ---- the slots

  slot_before : (align s n : ℕ) → IsAlignedSlot F align s n → s < first → IsAlignedSlot G align s (min n (first - s))
  slot_before align s n slot low =
      let from = slot.start.from in
      let long = slot.long in
      let within = slot.within in
      record {
        first = slot.first;
        last = min slot.last (first - 1);
        run = run_before slot.first slot.last slot.run (omega arith);
        start = slot.start;
        within = omega arith;
        long = omega arith;
      }

  slot_behind : (align s n t : ℕ) → IsAlignedSlot F align s n → IsFirstMultiple align (max s (last + 1)) t → t < s + n → IsAlignedSlot G align t (s + n - t)
  slot_behind align s n t slot next low =
      let from = slot.start.from in
      let long = slot.long in
      let up = next.from in
      record {
        first = max slot.first (last + 1);
        last = slot.last;
        run = run_behind slot.first slot.last slot.run (omega arith);
        start = record {
          multiple = next.multiple;
          from = omega arith;
          least = λ u multiple above.
              let later = slot.start.least u multiple (omega arith) in
              next.least u multiple (omega arith);
        };
        within = omega arith;
        long = omega arith;
      }

  -- A remaining slot that starts in an old one is its part before or after the sectors.
  left_of : (align s n t k : ℕ) → IsAlignedSlot F align s n → IsAlignedSlot G align t k → s ≤ t → t < s + n
      → ((s ≡ t) × (s < first) × (min n (first - s) ≡ k)) ⊎ (IsFirstMultiple align (max s (last + 1)) t × (s + n - t ≡ k))
  left_of align s n t k slot left from to =
      let low = slot.start.from in
      let long = slot.long in
      let free = slot_free G align t k left in
      elim (cases_lt t first) [
        | inl early ↦
            let both = slot_of_run G align slot.first (min slot.last (first - 1)) t k (run_before slot.first slot.last slot.run (omega arith)) left (omega arith) (omega arith) in
            let same = one_first_multiple align slot.first s t slot.start both.0 in
            let ends = both.1 in
            inl (same, omega arith, omega arith)
        | inr not_early ↦ elim (cases_lt last t) [
          | inl late ↦
              let both = slot_of_run G align (max slot.first (last + 1)) slot.last t k (run_behind slot.first slot.last slot.run (omega arith)) left (omega arith) (omega arith) in
              let next = both.0 in
              let ends = both.1 in
              inr (
                record {
                  multiple = next.multiple;
                  from = omega arith;
                  least = λ u multiple above. next.least u multiple (omega arith);
                },
                omega arith,
              )
          | inr not_late ↦ absurd (less.out t not_early not_late free)
        ]
      ]

-- ---- the list

-- The pairs of two lists, and those across them.
all_pairs_append : {X : Type 0} (R : X → X → Type 0) (xs ys : List X) → AllPairs R xs → AllPairs R ys → All (λ x. All (R x) ys) xs → AllPairs R (xs ++ ys)
all_pairs_append R [] ys p q across = q
all_pairs_append R (x ∷ xs) ys p q across =
    AllPairs-cons R x (xs ++ ys)
    (All-append (R x) xs ys (AllPairs-head R x xs p) (All-head (λ x. All (R x) ys) x xs across))
    (all_pairs_append R xs ys (AllPairs-tail R x xs p) q (All-tail (λ x. All (R x) ys) x xs across))

-- A property of all pieces of each element.
all_pieces : {X Y : Type 0} (f : X → List Y) (P : X → Type 0) (Q : Y → Type 0) → ((x : X) → P x → All Q (f x)) → (xs : List X) → All P xs → All Q (flat_map f xs)
all_pieces f P Q to [] all = All-nil Q
all_pieces f P Q to (x ∷ xs) all = All-append Q (f x) (flat_map f xs) (to x (All-head P x xs all)) (all_pieces f P Q to xs (All-tail P x xs all))

-- A piece of an element is one of all pieces.
piece_at : {X Y : Type 0} (f : X → List Y) (k : ℕ) (xs : List X) (x : X) (y : Y) → k < length xs → get_or xs k x ≡ x → Contains (f x) y → Contains (flat_map f xs) y
piece_at f k [] x y within is has = absurd (omega arith)
piece_at f zero (z ∷ xs) x y within is has = Contains-append_left (f z) (flat_map f xs) y (subst (λ u. Contains (f u) y) (sym is) has)
piece_at f (suc k) (z ∷ xs) x y within is has = Contains-append_right (f z) (flat_map f xs) y (piece_at f k xs x y (omega arith) is has)

piece_of : {X Y : Type 0} (f : X → List Y) (xs : List X) (x : X) (y : Y) → Contains xs x → Contains (f x) y → Contains (flat_map f xs) y
piece_of f xs x y at has = piece_at f at.0 xs x y at.1 at.2 has

-- x starts within s.
abbrev BeginsIn : ℕ × ℕ → ℕ × ℕ → Type 0
BeginsIn s x = (s.0 ≤ x.0) × (x.0 < s.0 + s.1)

abbrev Begins : ℕ × ℕ → ℕ × ℕ → Type 0
Begins s t = s.0 < t.0

-- The pieces start within the element, in order.
abbrev AreInOrder : (ℕ × ℕ → List (ℕ × ℕ)) → ℕ × ℕ → Type 0
AreInOrder f s = All (BeginsIn s) (f s) × AllPairs Begins (f s)

-- Pieces of ordered elements start in order.
pieces_ascend : (f : ℕ × ℕ → List (ℕ × ℕ)) (xs : List (ℕ × ℕ)) → All (AreInOrder f) xs → AllPairs (λ s t. s.0 + s.1 ≤ t.0) xs → AllPairs Begins (flat_map f xs)
pieces_ascend f [] all apart = AllPairs-nil Begins
pieces_ascend f (s ∷ xs) all apart =
    let here = All-head (AreInOrder f) s xs all in
    let rest = All-tail (AreInOrder f) s xs all in
    let behind = AllPairs-head (λ (s t : ℕ × ℕ). s.0 + s.1 ≤ t.0) s xs apart in
    all_pairs_append Begins (f s) (flat_map f xs) here.1 (pieces_ascend f xs rest (AllPairs-tail (λ (s t : ℕ × ℕ). s.0 + s.1 ≤ t.0) s xs apart))
    (All-weaker (BeginsIn s) (λ x. All (Begins x) (flat_map f xs))
    (λ x in_s. all_pieces f (λ t. (s.0 + s.1 ≤ t.0) × All (BeginsIn t) (f t)) (Begins x)
    (λ t later. All-weaker (BeginsIn t) (Begins x) (λ y in_t. omega (arith, in_s.1, in_t.0, later.0)) (f t) later.1) xs
    (λ k d within. (behind k d within, (rest k d within).0)))
    (f s) here.0)

-- ---- the rest of one slot

all_option : {X : Type 0} (Q : X → Type 0) (o : Option X) → ((x : X) → o ≡ Some x → Q x) → All Q (option_to_list o)
all_option Q None to = All-nil Q
all_option Q (Some x) to = All-cons Q x [] (to x refl) (All-nil Q)

pairs_option : {X : Type 0} (R : X → X → Type 0) (o : Option X) → AllPairs R (option_to_list o)
pairs_option R None = AllPairs-nil R
pairs_option R (Some x) = AllPairs-cons R x [] (All-nil (R x)) (AllPairs-nil R)

has_option : {X : Type 0} (o : Option X) (x : X) → o ≡ Some x → Contains (option_to_list o) x
has_option None x is = absurd (cc)
has_option (Some y) x is = let same : y ≡ x = cc in (0, omega arith, same)

-- x is the part of s before first.
record IsBeforePart (first : ℕ) (s x : ℕ × ℕ) : Type 0 where
  low : s.0 < first
  is : ◌≡◌ {A = ℕ × ℕ} (s.0, min s.1 (first - s.0)) x

before_is : (first : ℕ) (s x : ℕ × ℕ) → before_of first s ≡ Some x → IsBeforePart first s x
before_is first s x h =
    let given = cond_some (nat_lt s.0 first) (s.0, min s.1 (first - s.0)) x h in
    record { low = ltb-true s.0 first given.0; is = given.1 }

-- x is the part of s after last.
record IsBehindPart (align last : ℕ) (s x : ℕ × ℕ) : Type 0 where
  next : IsFirstMultiple align (max s.0 (last + 1)) x.0
  low : x.0 < s.0 + s.1
  is : ◌≡◌ {A = ℕ × ℕ} (x.0, s.0 + s.1 - x.0) x

behind_is : (align last : ℕ) (s x : ℕ × ℕ) → 0 < align → behind_of align last s ≡ Some x → IsBehindPart align last s x
behind_is align last s x positive h =
    let start = round_up align (max s.0 (last + 1)) in
    let given = cond_some (nat_lt start (s.0 + s.1)) (start, s.0 + s.1 - start) x h in
    let low = ltb-true start (s.0 + s.1) given.0 in
    let same : start ≡ x.0 = ap (λ (r : ℕ × ℕ). r.0) given.1 in
    record {
      next = subst (λ (y : ℕ). IsFirstMultiple align (max s.0 (last + 1)) y) same (round_up_by align (max s.0 (last + 1)) positive);
      low = omega arith;
      is = subst (λ (y : ℕ). ◌≡◌ {A = ℕ × ℕ} (y, s.0 + s.1 - y) x) same given.1;
    }

-- A property of both parts.
all_rest : (align first last : ℕ) (s : ℕ × ℕ) (Q : ℕ × ℕ → Type 0) → 0 < align → ((x : ℕ × ℕ) → IsBeforePart first s x → Q x)
    → ((x : ℕ × ℕ) → IsBehindPart align last s x → Q x) → All Q (rest_of align first last s)
all_rest align first last s Q positive here there =
    All-append Q (option_to_list (before_of first s)) (option_to_list (behind_of align last s))
    (all_option Q (before_of first s) (λ x is. here x (before_is first s x is)))
    (all_option Q (behind_of align last s) (λ x is. there x (behind_is align last s x positive is)))

rest_in_order : (align first last : ℕ) (s : ℕ × ℕ) → 0 < align → first ≤ last → 0 < s.1 → AreInOrder (rest_of align first last) s
rest_in_order align first last s positive ordered some = (
  all_rest align first last s (BeginsIn s) positive
      (λ x p. let is = ap (λ (r : ℕ × ℕ). r.0) p.is in (omega arith, omega arith))
      (λ x p. let from = p.next.from in let low = p.low in (omega arith, omega arith)),
  all_pairs_append Begins (option_to_list (before_of first s)) (option_to_list (behind_of align last s)) (pairs_option Begins (before_of first s))
      (pairs_option Begins (behind_of align last s))
      (all_option (λ x. All (Begins x) (option_to_list (behind_of align last s))) (before_of first s) (λ x has.
      all_option (Begins x) (behind_of align last s) (λ y next.
      let p = before_is first s x has in
      let q = behind_is align last s y positive next in
      let is = ap (λ (r : ℕ × ℕ). r.0) p.is in
      let low = p.low in
      let from = q.next.from in
      omega arith))),
)

before_some : (first : ℕ) (s x : ℕ × ℕ) → s.0 < first → ◌≡◌ {A = ℕ × ℕ} (s.0, min s.1 (first - s.0)) x → before_of first s ≡ Some x
before_some first s x low is = subst (λ (y : ℕ × ℕ). before_of first s ≡ Some y) is (sym (cond_below s.0 first (Some (s.0, min s.1 (first - s.0))) None low))

-- The part after last, by the first multiple there and the distance to the end.
behind_some : (align last : ℕ) (s : ℕ × ℕ) (t k : ℕ) → 0 < align → IsFirstMultiple align (max s.0 (last + 1)) t → t < s.0 + s.1 → s.0 + s.1 - t ≡ k
    → behind_of align last s ≡ Some (t, k)
behind_some align last s t k positive next low long =
    let start : ℕ = round_up align (max s.0 (last + 1)) in
    let same : start ≡ t = round_up_is align (max s.0 (last + 1)) t positive next in
    let far : s.0 + s.1 - start ≡ k = omega (arith, same, long) in
    let pair : ◌≡◌ {A = ℕ × ℕ} (start, s.0 + s.1 - start) (t, k) = λ i. (same i, far i) in
    subst (λ (y : ℕ × ℕ). behind_of align last s ≡ Some y) pair
    (sym (cond_below start (s.0 + s.1) (Some (start, s.0 + s.1 - start)) None (omega (arith, same, low))))

rest_has : (F G : ℕ → Type 0) (align first last : ℕ) (s : ℕ × ℕ) (t k : ℕ) → IsLess F G first last → first ≤ last → 0 < align → IsAlignedSlot F align s.0 s.1
    → IsAlignedSlot G align t k → s.0 ≤ t → t < s.0 + s.1 → Contains (rest_of align first last s) (t, k)
rest_has F G align first last s t k less ordered positive slot left from to =
    elim (left_of F G first last less ordered align s.0 s.1 t k slot left from to) [
      | inl part ↦
          let pair : ◌≡◌ {A = ℕ × ℕ} (s.0, min s.1 (first - s.0)) (t, k) = λ i. (part.0 i, part.2 i) in
          Contains-append_left (option_to_list (before_of first s)) (option_to_list (behind_of align last s)) (t, k)
          (has_option (before_of first s) (t, k) (before_some first s (t, k) part.1 pair))
      | inr part ↦
          Contains-append_right (option_to_list (before_of first s)) (option_to_list (behind_of align last s)) (t, k)
          (has_option (behind_of align last s) (t, k) (behind_some align last s t k positive part.0 to part.1))
    ]

-- If the first multiple is within the slot,
pub behind_found : (align last end : ℕ) (s : ℕ × ℕ) (from skipped : ℕ) → 0 < align → IsFirstMultiple align from (from + skipped) → from ≡ max s.0 (last + 1) → end + 1 ≡ s.0 + s.1
    → from ≤ end → skipped ≤ end - from → ◌≡◌ {A = Option (ℕ × ℕ)} (Some (from + skipped, end - from - skipped + 1)) (behind_of align last s)
behind_found align last end s from skipped positive next is long within low =
    sym (behind_some align last s (from + skipped) (end - from - skipped + 1) positive
    (subst (λ (y : ℕ). IsFirstMultiple align y (from + skipped)) is next) (omega arith) (omega arith))

-- and if it is not.
pub behind_gone : (align last end : ℕ) (s : ℕ × ℕ) (from skipped : ℕ) → 0 < align → IsFirstMultiple align from (from + skipped) → from ≡ max s.0 (last + 1) → end + 1 ≡ s.0 + s.1
    → from ≤ end → end - from < skipped → ◌≡◌ {A = Option (ℕ × ℕ)} None (behind_of align last s)
behind_gone align last end s from skipped positive next is long within high =
    let start : ℕ = round_up align (max s.0 (last + 1)) in
    let same : start ≡ from + skipped =
    round_up_is align (max s.0 (last + 1)) (from + skipped) positive (subst (λ (y : ℕ). IsFirstMultiple align y (from + skipped)) is next) in
    cond_above {X = Option (ℕ × ℕ)} start (s.0 + s.1) (Some (start, s.0 + s.1 - start)) None None (omega (arith, same)) refl

-- ---- the rest of all slots

-- Slots do not overlap.
pub slots_apart : (F : ℕ → Type 0) (align : ℕ) (slots : List (ℕ × ℕ)) → AreSlots F align slots → AllPairs (λ s t. s.0 + s.1 ≤ t.0) slots
slots_apart F align slots are i j d less within =
    let a = are.each i d (omega arith) in
    let b = are.each j d within in
    let order = are.ascending i j d less within in
    let from = a.start.from in
    let long = a.long in
    elim (cases_lt (get_or slots j d).0 ((get_or slots i d).0 + (get_or slots i d).1)) [
      | inl inside ↦
          let both = slot_of_run F align a.first a.last (get_or slots j d).0 (get_or slots j d).1 a.run b (omega arith) (omega arith) in
          let same = one_first_multiple align a.first (get_or slots i d).0 (get_or slots j d).0 a.start both.0 in
          absurd (omega arith)
      | inr behind ↦ behind
    ]

-- A slot has a sector.
pub slot_long : (F : ℕ → Type 0) (align s n : ℕ) → IsAlignedSlot F align s n → 0 < n
slot_long F align s n slot = let within = slot.within in let long = slot.long in omega arith

pub slots_left : (F G : ℕ → Type 0) (align first last : ℕ) (slots : List (ℕ × ℕ)) → IsLess F G first last → first ≤ last → 0 < align → IsSettled F
    → AreSlots F align slots → AreSlots G align (flat_map (rest_of align first last) slots)
slots_left F G align first last slots less ordered positive settled are = record {
  each = all_pieces (rest_of align first last) (λ s. IsAlignedSlot F align s.0 s.1) (λ s. IsAlignedSlot G align s.0 s.1) (λ s slot.
      all_rest align first last s (λ s. IsAlignedSlot G align s.0 s.1) positive
      (λ x p. subst (λ (y : ℕ × ℕ). IsAlignedSlot G align y.0 y.1) p.is (slot_before F G first last less ordered align s.0 s.1 slot p.low))
      (λ x p. subst (λ (y : ℕ × ℕ). IsAlignedSlot G align y.0 y.1) p.is (slot_behind F G first last less ordered align s.0 s.1 x.0 slot p.next p.low)))
      slots are.each;
  every = λ t k left.
      let free = less.down t (slot_free G align t k left) in
      let place : IsPlace F align 1 t = record { multiple = left.start.multiple; inside = λ x low high. let same : t ≡ x = omega arith in subst (λ (y : ℕ). F y) same free } in
      let a = around F settled align 1 t positive (omega arith) place in
      let from = a.from in
      let to = a.to in
      piece_of (rest_of align first last) slots (a.start, a.long) (t, k) (are.every a.start a.long a.slot)
      (rest_has F G align first last (a.start, a.long) t k less ordered positive a.slot left a.from (omega arith));
  ascending = pieces_ascend (rest_of align first last) slots
      (All-weaker (λ s. IsAlignedSlot F align s.0 s.1) (AreInOrder (rest_of align first last))
      (λ s slot. rest_in_order align first last s positive ordered (slot_long F align s.0 s.1 slot)) slots are.each)
      (slots_apart F align slots are);
}

-- ---- one slot contains all the sectors

-- A slot before or after the sectors is unchanged.
spared : (align first last : ℕ) (t : ℕ × ℕ) → 0 < align → first ≤ last → 0 < t.1 → align ∣ t.0 → (t.0 + t.1 ≤ first) ⊎ (last < t.0) → rest_of align first last t ≡ t ∷ []
spared align first last t positive ordered some multiple (inl before) =
    let start : ℕ = round_up align (max t.0 (last + 1)) in
    let up = (round_up_by align (max t.0 (last + 1)) positive).from in
    let far : min t.1 (first - t.0) ≡ t.1 = omega arith in
    let pair : ◌≡◌ {A = ℕ × ℕ} (t.0, min t.1 (first - t.0)) t = λ i. (t.0, far i) in
    let here : before_of first t ≡ Some t = before_some first t t (omega arith) pair in
    let none : behind_of align last t ≡ None = sym (cond_above {X = Option (ℕ × ℕ)} start (t.0 + t.1) (Some (start, t.0 + t.1 - start)) None None (omega arith) refl) in
    ap (λ (o : Option (ℕ × ℕ)). option_to_list o ++ option_to_list (behind_of align last t)) here
    ∙ ap (λ (o : Option (ℕ × ℕ)). option_to_list (Some t) ++ option_to_list o) none
spared align first last t positive ordered some multiple (inr behind) =
    let next : IsFirstMultiple align (max t.0 (last + 1)) t.0 = record { multiple = multiple; from = omega arith; least = λ u _ above. omega arith } in
    let there : behind_of align last t ≡ Some t = behind_some align last t t.0 t.1 positive next (omega arith) (omega arith) in
    let none : before_of first t ≡ None = sym (cond_above {X = Option (ℕ × ℕ)} t.0 first (Some (t.0, min t.1 (first - t.0))) None None (omega arith) refl) in
    ap (λ (o : Option (ℕ × ℕ)). option_to_list o ++ option_to_list (behind_of align last t)) none
    ∙ ap (λ (o : Option (ℕ × ℕ)). option_to_list {X = ℕ × ℕ} None ++ option_to_list o) there

all_spared : {X : Type 0} (f : X → List X) (xs : List X) → All (λ x. f x ≡ x ∷ []) xs → flat_map f xs ≡ xs
all_spared f [] all = refl
all_spared f (x ∷ xs) all =
    ap (λ l. l ++ flat_map f xs) (All-head (λ x. f x ≡ x ∷ []) x xs all) ∙ ap (λ l. x ∷ l) (all_spared f xs (All-tail (λ x. f x ≡ x ∷ []) x xs all))

pub cut_within : (align first last : ℕ) (slots : List (ℕ × ℕ)) (i : ℕ) → 0 < align → first ≤ last → All (λ s. 0 < s.1) slots → All (λ s. align ∣ s.0) slots
    → AllPairs (λ s t. s.0 + s.1 ≤ t.0) slots → i < length slots → HasSpan first last (get_or slots i (0, 0))
    → take i slots ++ (rest_of align first last (get_or slots i (0, 0)) ++ drop (i + 1) slots) ≡ flat_map (rest_of align first last) slots
cut_within align first last slots i positive ordered some multiples apart within has =
    let f : ℕ × ℕ → List (ℕ × ℕ) = rest_of align first last in
    let s : ℕ × ℕ = get_or slots i (0, 0) in
    let front : flat_map f (take i slots) ≡ take i slots = all_spared f (take i slots) (λ k d below.
    let less : k < i = omega (arith, length-take i slots) in
    let same = ap (λ (x : ℕ × ℕ). x.0) (get_or_default slots i d (0, 0) within) in
    let order = apart k i d less within in
    subst (λ (x : ℕ × ℕ). f x ≡ x ∷ []) (sym (get_or-take i slots k d less))
    (spared align first last (get_or slots k d) positive ordered (some k d (omega arith)) (multiples k d (omega arith)) (inl (omega (arith, has.0))))) in
    let back : flat_map f (drop (i + 1) slots) ≡ drop (i + 1) slots = all_spared f (drop (i + 1) slots) (λ k d below.
    let long = length-drop (i + 1) slots in
    let in_all : i + 1 + k < length slots = omega arith in
    let same = get_or_default slots i d (0, 0) within in
    let same_start = ap (λ (x : ℕ × ℕ). x.0) same in
    let same_long = ap (λ (x : ℕ × ℕ). x.1) same in
    let order = apart i (i + 1 + k) d (omega arith) in_all in
    subst (λ (x : ℕ × ℕ). f x ≡ x ∷ []) (sym (get_or-drop (i + 1) slots k d))
    (spared align first last (get_or slots (i + 1 + k) d) positive ordered (some (i + 1 + k) d in_all) (multiples (i + 1 + k) d in_all) (inr (omega (arith, has.1))))) in
    let whole : slots ≡ take i slots ++ (s ∷ drop (i + 1) slots) = sym (take-append-drop i slots) ∙ ap (λ (l : List (ℕ × ℕ)). take i slots ++ l) (rw add-one (drop-cons slots i (0, 0) within)) in
    let split : flat_map f slots ≡ flat_map f (take i slots) ++ (f s ++ flat_map f (drop (i + 1) slots)) =
    ap (λ (l : List (ℕ × ℕ)). flat_map f l) whole ∙ flat_map-append f (take i slots) (s ∷ drop (i + 1) slots) in
    sym (split ∙ (ap (λ (l : List (ℕ × ℕ)). l ++ (f s ++ flat_map f (drop (i + 1) slots))) front ∙ ap (λ (l : List (ℕ × ℕ)). take i slots ++ (f s ++ l)) back))

-- ---- by slots

pub has_span : (first last : ℕ) (slots : List Slot) (i : ℕ) (slot : Slot) → i < length slots → slot ≡ get_or slots i slot → slot.start ≤ first → last < slot.start + slot.length
    → HasSpan first last (get_or (pairs_of slots) i (0, 0))
has_span first last slots i slot within is low high = subst (HasSpan first last) (sym (at_pair slots i slot within is)) (low, high)

both_parts : (align first last : ℕ) (slots : List Slot) (i : ℕ) (slot : Slot) (a b : Option Slot) → i < length slots → slot ≡ get_or slots i slot
    → option_map pair_of a ≡ before_of first (pair_of slot) → option_map pair_of b ≡ behind_of align last (pair_of slot)
    → option_to_list (option_map pair_of a) ++ option_to_list (option_map pair_of b) ≡ rest_of align first last (get_or (pairs_of slots) i (0, 0))
both_parts align first last slots i slot a b within is before behind =
    (λ k. option_to_list (before k) ++ option_to_list (behind k)) ∙ ap (rest_of align first last) (sym (at_pair slots i slot within is))

-- The rest in the place of one slot,
pub put_rest : (align first last : ℕ) (slots : List Slot) (i : ℕ) (slot : Slot) (a b : Option Slot) (next : List Slot) → i < length slots → slot ≡ get_or slots i slot
    → option_map pair_of a ≡ before_of first (pair_of slot) → option_map pair_of b ≡ behind_of align last (pair_of slot)
    → next ≡ take i slots ++ ((option_to_list a ++ option_to_list b) ++ drop (i + 1) slots)
    → pairs_of next ≡ take i (pairs_of slots) ++ (rest_of align first last (get_or (pairs_of slots) i (0, 0)) ++ drop (i + 1) (pairs_of slots))
put_rest align first last slots i slot a b next within is before behind same =
    let parts = both_parts align first last slots i slot a b within is before behind in
    ap pairs_of same ∙ (put_pairs slots i a b ∙ (λ k. take i (pairs_of slots) ++ (parts k ++ drop (i + 1) (pairs_of slots))))

-- and after the rest of those before it.
pub push_rest : (align first last : ℕ) (slots : List Slot) (i : ℕ) (slot : Slot) (a b : Option Slot) (rest next : List Slot) → i < length slots → slot ≡ get_or slots i slot
    → option_map pair_of a ≡ before_of first (pair_of slot) → option_map pair_of b ≡ behind_of align last (pair_of slot)
    → pairs_of rest ≡ flat_map (rest_of align first last) (take i (pairs_of slots)) → next ≡ (rest ++ option_to_list a) ++ option_to_list b
    → pairs_of next ≡ flat_map (rest_of align first last) (take (i + 1) (pairs_of slots))
push_rest align first last slots i slot a b rest next within is before behind so_far same =
    let pairs : List (ℕ × ℕ) = pairs_of slots in
    let f : ℕ × ℕ → List (ℕ × ℕ) = rest_of align first last in
    let s : ℕ × ℕ = get_or pairs i (0, 0) in
    let parts = both_parts align first last slots i slot a b within is before behind in
    let more : flat_map f (take (i + 1) pairs) ≡ flat_map f (take i pairs) ++ (f s ++ []) =
    ap (λ (l : List (ℕ × ℕ)). flat_map f l) (take_more pairs i (0, 0) (omega (arith, within, length-map slots pair_of))) ∙ flat_map-append f (take i pairs) (s ∷ []) in
    ap pairs_of same
    ∙ (more_pairs rest a b
    ∙ (append_assoc (pairs_of rest) (option_to_list (option_map pair_of a)) (option_to_list (option_map pair_of b))
    ∙ ((λ k. so_far k ++ parts k) ∙ sym (more ∙ ap (λ (l : List (ℕ × ℕ)). flat_map f (take i pairs) ++ l) (append-nil (f s))))))
