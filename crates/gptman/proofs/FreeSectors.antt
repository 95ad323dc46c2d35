-- Free by the entries is the same as outside their ranges. Slots depend only on which sectors are free.
use Rattle.std.proofs.Common.{◌⊎◌, inl, inr, ℕ, ◌+◌, ◌≡◌, List, [], ◌∷◌, Some, IsTrue, arith}
use Rattle.std.specs.List.{All, filter_map}
use Rattle.std.specs.List.Sorted.{IsPermutation}
use Rattle.std.proofs.lemmas.Bool.{cases_Bool, cases_lt, both_ways}
use Rattle.std.proofs.lemmas.List.Elements.{All-nil, All-cons, All-head, All-tail, All-weaker}
use Rattle.std.proofs.lemmas.List.Sorted.{All-permutation, IsPermutation-sym}
use Rattle.gptman.specs.Entry.{covers, covered_range}
use Rattle.gptman.specs.Place.{IsFree, IsUsable, IsRun, IsAlignedSlot, AreSlots}
use Rattle.gptman.specs.Sweep.{IsOutside, Misses}
use Rattle.gptman.specs.declared.codec.entry.GPTPartitionEntry.{GPTPartitionEntry}
use Rattle.gptman.specs.declared.codec.header.GPTHeader.{GPTHeader}
use Rattle.gptman.proofs.Covered.{covers_nothing, range_of}
use Rattle.gptman.proofs.Pairs.{All-filter_map, All-from_filter_map}
use Rattle.gptman.proofs.Places.{IsSettled}

-- The entry does not cover the sector.
abbrev pub Spares : ℕ → GPTPartitionEntry → Type 0
Spares x e = ¬ IsTrue (covers x e)

range_misses : (x : ℕ) (e : GPTPartitionEntry) (r : ℕ × ℕ) → covered_range e ≡ Some r → Spares x e → Misses x r
range_misses x e r is spares from to = spares ((range_of e r is).covered x from to)

entry_spares : (x : ℕ) (e : GPTPartitionEntry) (r : ℕ × ℕ) → covered_range e ≡ Some r → Misses x r → Spares x e
entry_spares x e r is misses has = let range = (range_of e r is).within x has in misses range.0 range.1

outside_if_free : (h : GPTHeader) (es : List GPTPartitionEntry) (rs : List (ℕ × ℕ)) → IsPermutation (filter_map covered_range es) rs → (x : ℕ)
    → IsFree h es x → IsOutside h rs x
outside_if_free h es rs p x free = record {
  usable = free.usable;
  uncovered = All-permutation (Misses x) (filter_map covered_range es) rs p (All-filter_map covered_range (Spares x) (Misses x) (range_misses x) es free.uncovered);
}

free_if_outside : (h : GPTHeader) (es : List GPTPartitionEntry) (rs : List (ℕ × ℕ)) → IsPermutation (filter_map covered_range es) rs → (x : ℕ)
    → IsOutside h rs x → IsFree h es x
free_if_outside h es rs p x out = record {
  usable = out.usable;
  uncovered = All-from_filter_map covered_range (Spares x) (Misses x) (entry_spares x) (λ e none. covers_nothing e none x) es
      (All-permutation (Misses x) rs (filter_map covered_range es) (IsPermutation-sym (filter_map covered_range es) rs p) out.uncovered);
}

-- ---- the same sectors are free

run_same : (F G : ℕ → Type 0) → ((x : ℕ) → F x → G x) → ((x : ℕ) → G x → F x) → (a b : ℕ) → IsRun F a b → IsRun G a b
run_same F G to from a b r = record {
  ordered = r.ordered;
  inside = λ x h k. to x (r.inside x h k);
  before = λ x e g. r.before x e (from x g);
  after = λ g. r.after (from (b + 1) g);
}

slot_same : (F G : ℕ → Type 0) → ((x : ℕ) → F x → G x) → ((x : ℕ) → G x → F x) → (align s n : ℕ) → IsAlignedSlot F align s n → IsAlignedSlot G align s n
slot_same F G to from align s n t = record {
  first = t.first;
  last = t.last;
  run = run_same F G to from t.first t.last t.run;
  start = t.start;
  within = t.within;
  long = t.long;
}

slots_same : (F G : ℕ → Type 0) → ((x : ℕ) → F x → G x) → ((x : ℕ) → G x → F x) → (align : ℕ) (slots : List (ℕ × ℕ)) → AreSlots F align slots
    → AreSlots G align slots
slots_same F G to from align slots are = record {
  each = All-weaker (λ s. IsAlignedSlot F align s.0 s.1) (λ s. IsAlignedSlot G align s.0 s.1) (λ s. slot_same F G to from align s.0 s.1) slots are.each;
  every = λ s n t. are.every s n (slot_same G F from to align s n t);
  ascending = are.ascending;
}

-- The slots outside the ranges are those of the entries.
pub slots_of_entries : (h : GPTHeader) (es : List GPTPartitionEntry) (rs : List (ℕ × ℕ)) → IsPermutation (filter_map covered_range es) rs → (align : ℕ)
    (slots : List (ℕ × ℕ)) → AreSlots (IsOutside h rs) align slots → AreSlots (IsFree h es) align slots
slots_of_entries h es rs p align slots are = slots_same (IsOutside h rs) (IsFree h es) (free_if_outside h es rs p) (outside_if_free h es rs p) align slots are

-- ---- each sector is free or not

all_spare_or_not : (x : ℕ) (es : List GPTPartitionEntry) → All (Spares x) es ⊎ ¬ All (Spares x) es
all_spare_or_not x [] = inl (All-nil (Spares x))
all_spare_or_not x (e ∷ es) = elim (cases_Bool (covers x e)) [
  | inl covered ↦ inr (λ all. All-head (Spares x) e es all covered)
  | inr spared ↦ elim (all_spare_or_not x es) [
    | inl all ↦ inl (All-cons (Spares x) e es (λ covered. both_ways (covers x e) spared covered) all)
    | inr some ↦ inr (λ all. some (All-tail (Spares x) e es all))
  ]
]

usable_or_not : (h : GPTHeader) (x : ℕ) → IsUsable h x ⊎ ¬ IsUsable h x
usable_or_not h x = elim (cases_lt x 1) [
  | inl zero_sector ↦ inr (λ u. let positive = u.positive in omega arith)
  | inr positive ↦ elim (cases_lt x h.first_usable_lba) [
    | inl before ↦ inr (λ u. let low = u.low in omega arith)
    | inr low ↦ elim (cases_lt h.last_usable_lba x) [
      | inl after ↦ inr (λ u. let high = u.high in omega arith)
      | inr high ↦ inl (record { positive = positive; low = low; high = high })
    ]
  ]
]

-- The last usable sector is a bound.
pub free_settled : (h : GPTHeader) (es : List GPTPartitionEntry) → IsSettled (IsFree h es)
free_settled h es = record {
  free_or_not = λ x. elim (usable_or_not h x) [
    | inl usable ↦ elim (all_spare_or_not x es) [
      | inl all ↦ inl (record { usable = usable; uncovered = all })
      | inr some ↦ inr (λ free. some free.uncovered)
    ]
    | inr unusable ↦ inr (λ free. unusable free.usable)
  ];
  top = h.last_usable_lba;
  none_above = λ x free. free.usable.high;
}
