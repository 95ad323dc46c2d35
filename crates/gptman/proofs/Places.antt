-- Places, from the aligned slots.
use Prim.Native.Nat.{◌∣◌}
use Rattle.std.proofs.Common.{◌≡◌, ℕ, ◌+◌, ◌-◌, ◌*◌, ◌/◌, ◌%◌, ◌<◌, ◌≤◌, zero, suc, List, ◌⊎◌, inl, inr, sym, refl, subst, arith, ◌∙◌, map, length, get_or}
use Rattle.std.proofs.lemmas.List.{get_or-map, length-map}
use Rattle.std.specs.List.{All, Contains}
use Rattle.std.proofs.Math.Nat.{dvd-add, dvd-mul_left}
use Rattle.std.proofs.lemmas.Bool.{cases_lt}
use Rattle.std.proofs.lemmas.List.Elements.{All-contains}
use Rattle.gptman.specs.Place.{IsRun, IsAlignedSlot, AreSlots, IsPlace, IsFirstPlace, IsLastPlace, IsBestPlace, IsMaximumSize, HasNoPlace, HasNoSlot}
use Rattle.gptman.specs.Chosen.{round_down, AreShort, IsBestSlot, IsNoLater, IsGreatest, IsNoEarlier, IsTighter}
use Rattle.gptman.proofs.Multiples.{one_first_multiple, multiples_apart, a_first_multiple}
use Rattle.gptman.proofs.FreeRuns.{slot_of_run}

-- Each sector is free or not, and above some sector none is.
pub record IsSettled (F : ℕ → Type 0) : Type 0 where
  pub free_or_not : (x : ℕ) → F x ⊎ ¬ F x
  pub top : ℕ
  pub none_above : (x : ℕ) → F x → x ≤ top

-- The free sectors from the first one, a, to x.
record BackTo (F : ℕ → Type 0) (x : ℕ) : Type 0 where
  first : ℕ
  le : first ≤ x
  inside : (y : ℕ) → first ≤ y → y ≤ x → F y
  before : (y : ℕ) → y + 1 ≡ first → ¬ F y

back : (F : ℕ → Type 0) → IsSettled F → (x : ℕ) → F x → BackTo F x
back F s zero f = record {
  first = zero;
  le = omega arith;
  inside = λ y h k. let e : zero ≡ y = omega arith in subst (λ (y : ℕ). F y) e f;
  before = λ y e. absurd (omega arith);
}
back F s (suc n) f = elim (s.free_or_not n) [
  | inl free ↦ let b = back F s n free in record {
    first = b.first;
    le = let le = b.le in omega arith;
    inside = λ y h k. elim (cases_lt n y) [
      | inl more ↦ let e : suc n ≡ y = omega arith in subst (λ (y : ℕ). F y) e f
      | inr less ↦ b.inside y h less
    ];
    before = b.before;
  }
  | inr taken ↦ record {
    first = suc n;
    le = omega arith;
    inside = λ y h k. let e : suc n ≡ y = omega arith in subst (λ (y : ℕ). F y) e f;
    before = λ y e. let same : n ≡ y = omega arith in subst (λ (y : ℕ). ¬ F y) same taken;
  }
]

-- The free sectors from x to the last one.
record OnTo (F : ℕ → Type 0) (x : ℕ) : Type 0 where
  last : ℕ
  le : x ≤ last
  inside : (y : ℕ) → x ≤ y → y ≤ last → F y
  after : ¬ F (last + 1)

onward : (F : ℕ → Type 0) → ((x : ℕ) → F x ⊎ ¬ F x) → (k x : ℕ) → ((y : ℕ) → x + k < y → ¬ F y) → F x → OnTo F x
onward F dec zero x none f = record {
  last = x;
  le = omega arith;
  inside = λ y h k. let e : x ≡ y = omega arith in subst (λ (y : ℕ). F y) e f;
  after = none (x + 1) (omega arith);
}
onward F dec (suc k) x none f = elim (dec (x + 1)) [
  | inl free ↦ let b = onward F dec k (x + 1) (λ y h. none y (omega arith)) free in record {
    last = b.last;
    le = let le = b.le in omega arith;
    inside = λ y h k. elim (cases_lt x y) [
      | inl more ↦ b.inside y (omega arith) k
      | inr less ↦ let e : x ≡ y = omega arith in subst (λ (y : ℕ). F y) e f
    ];
    after = b.after;
  }
  | inr taken ↦ record {
    last = x;
    le = omega arith;
    inside = λ y h k. let e : x ≡ y = omega arith in subst (λ (y : ℕ). F y) e f;
    after = taken;
  }
]

-- A slot around n free sectors from t on.
pub record SlotAround (F : ℕ → Type 0) (align n t : ℕ) : Type 0 where
  pub start : ℕ
  pub long : ℕ
  pub slot : IsAlignedSlot F align start long
  pub from : start ≤ t
  pub to : t + n ≤ start + long

pub around : (F : ℕ → Type 0) → IsSettled F → (align n t : ℕ) → 0 < align → 1 ≤ n → IsPlace F align n t → SlotAround F align n t
around F settled align n t pos some p =
    let f : F t = p.inside t (omega arith) (omega arith) in
    let low = back F settled t f in
    let le = low.le in
    let high = onward F settled.free_or_not settled.top t (λ y h g. let top = settled.none_above y g in omega arith) f in
    let ge = high.le in
    let first = a_first_multiple align low.first pos in
    let before = first.1.least t p.multiple le in
    let reach : t + n ≤ high.last + 1 = elim (cases_lt high.last (t + n - 1)) [
      | inl less ↦ absurd (high.after (p.inside (high.last + 1) (omega arith) (omega arith)))
      | inr more ↦ omega arith
    ] in
    let run : IsRun F low.first high.last = record {
      ordered = omega arith;
      inside = λ y h k. elim (cases_lt y t) [
        | inl less ↦ low.inside y h (omega arith)
        | inr more ↦ high.inside y more k
      ];
      before = low.before;
      after = high.after;
    } in
    record {
      start = first.0;
      long = high.last + 1 - first.0;
      slot = record { first = low.first; last = high.last; run = run; start = first.1; within = omega arith; long = omega arith };
      from = before;
      to = omega arith;
    }

-- n sectors within a slot, from a multiple on, are a place.
pub place_in : (F : ℕ → Type 0) (align s l n t : ℕ) → IsAlignedSlot F align s l → align ∣ t → s ≤ t → t + n ≤ s + l → IsPlace F align n t
place_in F align s l n t slot d from to =
    let start = slot.start.from in
    let long = slot.long in
    record { multiple = d; inside = λ x h k. slot.run.inside x (omega arith) (omega arith) }

-- If no slot is long enough, there is no place.
pub no_place : (F : ℕ → Type 0) (align n : ℕ) (slots : List (ℕ × ℕ)) → IsSettled F → 0 < align → 1 ≤ n → AreSlots F align slots → AreShort n slots
    → HasNoPlace F align n
no_place F align n slots settled pos some are short t p =
    let a = around F settled align n t pos some p in
    let less = All-contains (λ s. s.1 < n) slots (a.start, a.long) short (are.every a.start a.long a.slot) in
    let from = a.from in let to = a.to in omega arith

chosen_slot : (F : ℕ → Type 0) (align : ℕ) (slots : List (ℕ × ℕ)) (s : ℕ × ℕ) → AreSlots F align slots → Contains slots s → IsAlignedSlot F align s.0 s.1
chosen_slot F align slots s are has = All-contains (λ s. IsAlignedSlot F align s.0 s.1) slots s are.each has

pub first_is : (F : ℕ → Type 0) (align n : ℕ) (slots : List (ℕ × ℕ)) (s : ℕ × ℕ) → IsSettled F → 0 < align → 1 ≤ n → AreSlots F align slots
    → IsBestSlot IsNoLater n slots s → IsFirstPlace F align n s.0
first_is F align n slots s settled pos some are c =
    let slot = chosen_slot F align slots s are c.member in
    let fits = c.fits in
    record {
      place = place_in F align s.0 s.1 n s.0 slot slot.start.multiple (omega arith) (omega arith);
      least = λ t p.
          let a = around F settled align n t pos some p in
          let from = a.from in let to = a.to in
          let early = All-contains (λ t. n ≤ t.1 → IsNoLater s t) slots (a.start, a.long) c.best (are.every a.start a.long a.slot) (omega arith) in
          omega arith;
    }

-- If a slot begins in another one, they are the same.
same_start : (F : ℕ → Type 0) (align s l t k : ℕ) → IsAlignedSlot F align s l → IsAlignedSlot F align t k → s ≤ t → t < s + l → (s ≡ t) × (l ≡ k)
same_start F align s l t k a b from to =
    let start = a.start.from in
    let long = a.long in
    let both = slot_of_run F align a.first a.last t k a.run b (omega arith) (omega arith) in
    let same = one_first_multiple align a.first s t a.start both.0 in
    let ends = both.1 in
    (same, omega arith)

-- The last place in a slot.
last_in : (align s l n : ℕ) → 0 < align → n ≤ l → align ∣ s → (t : ℕ) → align ∣ t → s ≤ t → t + n ≤ s + l → t ≤ s + (l - n) / align * align
last_in align s l n pos fits ds t dt from to =
    let top : ℕ = s + (l - n) / align * align in
    let multiple : align ∣ top = dvd-add align ds (dvd-mul_left align ((l - n) / align)) in
    elim (cases_lt top t) [
      | inl less ↦
          let far = multiples_apart align top t multiple dt less in
          let rest : (l - n) % align < align = omega arith in
          let is : (l - n) / align * align + (l - n) % align ≡ l - n = omega arith in
          absurd (omega arith)
      | inr more ↦ more
    ]

pub last_is : (F : ℕ → Type 0) (align n : ℕ) (slots : List (ℕ × ℕ)) (s : ℕ × ℕ) → IsSettled F → 0 < align → 1 ≤ n → AreSlots F align slots
    → IsBestSlot IsNoEarlier n slots s → IsLastPlace F align n (s.0 + (s.1 - n) / align * align)
last_is F align n slots s settled pos some are c =
    let slot = chosen_slot F align slots s are c.member in
    let fits = c.fits in
    let is : (s.1 - n) / align * align + (s.1 - n) % align ≡ s.1 - n = omega arith in
    let multiple : align ∣ s.0 + (s.1 - n) / align * align = dvd-add align slot.start.multiple (dvd-mul_left align ((s.1 - n) / align)) in
    record {
      place = place_in F align s.0 s.1 n (s.0 + (s.1 - n) / align * align) slot multiple (omega arith) (omega arith);
      greatest = λ t p.
          let a = around F settled align n t pos some p in
          let from = a.from in let to = a.to in
          let late = All-contains (λ t. n ≤ t.1 → IsNoEarlier s t) slots (a.start, a.long) c.best (are.every a.start a.long a.slot) (omega arith) in
          elim (cases_lt t s.0) [
            | inl less ↦ omega arith
            | inr more ↦
                let one = same_start F align a.start a.long s.0 s.1 a.slot slot late (omega arith) in
                let e0 = one.0 in let e1 = one.1 in
                last_in align s.0 s.1 n pos fits slot.start.multiple t p.multiple more (omega arith)
          ];
    }

tight_short : (n : ℕ) (s t : ℕ × ℕ) → IsTighter s t → s.1 ≤ t.1
tight_short n s t (inl less) = omega arith
tight_short n s t (inr same) = let e = same.0 in omega arith

tight_left : (s t : ℕ × ℕ) → IsTighter s t → s.1 ≡ t.1 → s.0 ≤ t.0
tight_left s t (inl less) e = absurd (omega arith)
tight_left s t (inr same) e = same.1

pub best_is : (F : ℕ → Type 0) (align n : ℕ) (slots : List (ℕ × ℕ)) (s : ℕ × ℕ) → AreSlots F align slots → IsBestSlot IsTighter n slots s
    → IsBestPlace F align n s.0
best_is F align n slots s are c = record {
  long = s.1;
  slot = chosen_slot F align slots s are c.member;
  fits = c.fits;
  shortest = λ t k slot fits. tight_short n s (t, k) (All-contains (λ t. n ≤ t.1 → IsTighter s t) slots (t, k) c.best (are.every t k slot) fits);
  leftmost = λ t slot. tight_left s (t, s.1) (All-contains (λ t. n ≤ t.1 → IsTighter s t) slots (t, s.1) c.best (are.every t s.1 slot) c.fits) refl;
}

-- The largest rounded length is the maximum.
pub max_is : (F : ℕ → Type 0) (align m : ℕ) (slots : List (ℕ × ℕ)) → AreSlots F align slots → IsGreatest (map (round_down align) slots) m
    → IsMaximumSize F align m
max_is F align m slots are g =
    let has = g.member in
    let all = g.most in
    let within : has.0 < length slots = omega (arith, has.1, length-map slots (round_down align)) in
    let s : ℕ × ℕ = get_or slots has.0 (0, 0) in
    let below : All (λ s. round_down align s ≤ m) slots = λ j d h.
    subst (λ (x : ℕ). x ≤ m) (get_or-map (round_down align) slots j d m h) (all j m (omega (arith, h, length-map slots (round_down align)))) in
    record {
      start = s.0;
      long = s.1;
      slot = are.each has.0 (0, 0) within;
      is = sym has.2 ∙ get_or-map (round_down align) slots has.0 (0, 0) m within;
      greatest = λ t k slot. All-contains (λ s. round_down align s ≤ m) slots (t, k) below (are.every t k slot);
    }

pub no_slot : (F : ℕ → Type 0) (align : ℕ) (slots : List (ℕ × ℕ)) → AreSlots F align slots → length slots ≡ 0 → HasNoSlot F align
no_slot F align slots are empty s n slot = let has = are.every s n slot in omega (arith, has.1)

-- The maximum is a multiple of align,
pub max_multiple : (F : ℕ → Type 0) (align m : ℕ) → IsMaximumSize F align m → align ∣ m
max_multiple F align m x =
    let is = x.is in
    let whole : x.long / align * align ≡ m = omega arith in
    subst (λ (y : ℕ). align ∣ y) whole (dvd-mul_left align (x.long / align))

-- has a place,
pub max_place : (F : ℕ → Type 0) (align m : ℕ) → IsMaximumSize F align m → (s : ℕ) × IsPlace F align m s
max_place F align m x = let is = x.is in (x.start, place_in F align x.start x.long m x.start x.slot x.slot.start.multiple (omega arith) (omega arith))

-- and with align more has none.
pub above_max : (F : ℕ → Type 0) (align m : ℕ) → IsSettled F → 0 < align → IsMaximumSize F align m → HasNoPlace F align (m + align)
above_max F align m settled pos x t p =
    let a = around F settled align (m + align) t pos (omega arith) p in
    let from = a.from in let to = a.to in
    let le = x.greatest a.start a.long a.slot in
    let rest : a.long % align < align = omega arith in
    omega arith
