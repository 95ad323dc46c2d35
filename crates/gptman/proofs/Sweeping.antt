-- The sweep over ranges that are sorted by their first sector.
use Rattle.std.proofs.Common.{◌≡◌, ℕ, ◌+◌, ◌-◌, ◌^◌, ◌<◌, ◌≤◌, min, max, List, length, get_or, take, inl, inr, sym, ap, subst, arith}
use Rattle.std.specs.List.{All}
use Rattle.std.specs.List.Sorted.{IsNonDecreasingBy}
use Rattle.std.proofs.lemmas.Bool.{cases_lt}
use Rattle.std.proofs.lemmas.List.{get_or-take, get_or_default, length-take}
use Rattle.std.proofs.lemmas.List.Elements.{All-more, All-weaker}
use Rattle.gptman.specs.Place.{IsRun, IsAlignedSlot, AreSlots}
use Rattle.gptman.specs.Sweep.{IsOutside, AddsGap}
use Rattle.gptman.specs.Sweep.AddsGap.{gap, no_gap}
use Rattle.gptman.specs.declared.codec.header.GPTHeader.{GPTHeader}
use Rattle.gptman.proofs.FreeRuns.{Swept, swept_skip, swept_run, swept_all}

-- After i ranges: the slots up to p, which is at least the end of each of them. Outside means outside all ranges from
-- the start, not only of those so far.
pub record Going (h : GPTHeader) (align : ℕ) (rs : List (ℕ × ℕ)) (i : ℕ) (slots : List (ℕ × ℕ)) (p : ℕ) : Type 0 where
  pub swept : Swept (IsOutside h rs) align slots p
  pub ends : All (λ r. r.1 ≤ p) (take i rs)
  pub low : h.first_usable_lba ≤ p + 1

-- A usable sector after the ranges so far and before all later ones is outside.
outside_between : (h : GPTHeader) (rs : List (ℕ × ℕ)) (i p x : ℕ) → IsNonDecreasingBy (λ r. r.0) rs → All (λ r. r.1 ≤ p) (take i rs) → p < x
    → h.first_usable_lba ≤ x → x ≤ h.last_usable_lba → ((d : ℕ × ℕ) → i < length rs → x < (get_or rs i d).0) → IsOutside h rs x
outside_between h rs i p x sorted ends above low high before = record {
  usable = record { positive = omega arith; low = low; high = high };
  uncovered = λ k d within from to. elim (cases_lt k i) [
    | inl early ↦
        let e = get_or-take i rs k d early in
        let end : (get_or (take i rs) k d).1 ≤ p = ends k d (omega (arith, length-take i rs)) in
        let same : (get_or (take i rs) k d).1 ≡ (get_or rs k d).1 = ap (λ (r : ℕ × ℕ). r.1) e in
        omega arith
    | inr late ↦
        let first = before d (omega arith) in
        let up = sorted i k d late within in
        omega arith
  ];
}

-- A sector of a range is not outside,
in_range : (h : GPTHeader) (rs : List (ℕ × ℕ)) (i x : ℕ) (d : ℕ × ℕ) → i < length rs → (get_or rs i d).0 ≤ x → x ≤ (get_or rs i d).1 → ¬ IsOutside h rs x
in_range h rs i x d within from to o = o.uncovered i d within from to

-- nor is one after the last usable sector.
past_last : (h : GPTHeader) (rs : List (ℕ × ℕ)) (x : ℕ) → h.last_usable_lba < x → ¬ IsOutside h rs x
past_last h rs x past o = let high = o.usable.high in omega arith

-- The ends after one more range.
ends_more : (rs : List (ℕ × ℕ)) (i p q : ℕ) (r : ℕ × ℕ) → i < length rs → r ≡ get_or rs i r → All (λ r. r.1 ≤ p) (take i rs) → p ≤ q → r.1 ≤ q
    → All (λ r. r.1 ≤ q) (take (i + 1) rs)
ends_more rs i p q r within e ends le here =
    let now : (get_or rs i r).1 ≤ q = let same : r.1 ≡ (get_or rs i r).1 = ap (λ (r : ℕ × ℕ). r.1) e in omega arith in
    All-more (λ r. r.1 ≤ q) rs i r within (All-weaker (λ r. r.1 ≤ p) (λ r. r.1 ≤ q) (λ r h. omega arith) (take i rs) ends) now

-- The run before a range.
run_before : (h : GPTHeader) (align : ℕ) (rs : List (ℕ × ℕ)) (i p to : ℕ) (slots : List (ℕ × ℕ)) (r : ℕ × ℕ) → IsNonDecreasingBy (λ r. r.0) rs
    → i < length rs → r ≡ get_or rs i r → r.0 ≤ r.1 → Going h align rs i slots p → to ≡ min h.last_usable_lba (r.0 - 1) → p < to
    → IsRun (IsOutside h rs) (p + 1) to
run_before h align rs i p to slots r sorted within e ordered g is room =
    let start : r.0 ≡ (get_or rs i r).0 = ap (λ (r : ℕ × ℕ). r.0) e in
    let end : r.1 ≡ (get_or rs i r).1 = ap (λ (r : ℕ × ℕ). r.1) e in
    let low = g.low in
    record {
      ordered = omega arith;
      inside = λ x from upto. outside_between h rs i p x sorted g.ends (omega arith) (omega arith) (omega arith) (λ d l.
          let same : (get_or rs i r).0 ≡ (get_or rs i d).0 = ap (λ (r : ℕ × ℕ). r.0) (get_or_default rs i r d l) in omega arith);
      before = λ x at. let e : p ≡ x = omega arith in subst (λ (y : ℕ). ¬ IsOutside h rs y) e g.swept.wall;
      after = elim (cases_lt to h.last_usable_lba) [
        | inl less ↦ in_range h rs i (to + 1) r within (omega arith) (omega arith)
        | inr more ↦ past_last h rs (to + 1) (omega arith)
      ];
    }

-- One more range; the greatest end so far is q.
pub going_on : (h : GPTHeader) (align : ℕ) (rs : List (ℕ × ℕ)) (i p to q : ℕ) (slots new : List (ℕ × ℕ)) (r : ℕ × ℕ) → IsNonDecreasingBy (λ r. r.0) rs
    → i < length rs → r ≡ get_or rs i r → r.0 ≤ r.1 → Going h align rs i slots p → to ≡ min h.last_usable_lba (r.0 - 1) → AddsGap align p to slots new
    → q ≡ max p r.1 → Going h align rs (i + 1) new q
going_on h align rs i p to q slots new r sorted within e ordered g is adds most =
    let start : r.0 ≡ (get_or rs i r).0 = ap (λ (r : ℕ × ℕ). r.0) e in
    let end : r.1 ≡ (get_or rs i r).1 = ap (λ (r : ℕ × ℕ). r.1) e in
    let none : (x : ℕ) → to < x → p < x → x ≤ q → ¬ IsOutside h rs x = λ x above past upto o.
    let high = o.usable.high in in_range h rs i x r within (omega arith) (omega arith) o in
    record {
      swept = elim adds [
        | gap room slot ↦ swept_run (IsOutside h rs) align slots new p to q g.swept (run_before h align rs i p to slots r sorted within e ordered g is room)
            (omega arith) (λ x above. none x above (omega arith)) slot
        | no_gap empty same ↦ subst (λ (l : List (ℕ × ℕ)). Swept (IsOutside h rs) align l q) (sym same)
            (swept_skip (IsOutside h rs) align slots p q (omega arith) (λ x past. none x (omega arith) past) g.swept)
      ];
      ends = ends_more rs i p q r within e g.ends (omega arith) (omega arith);
      low = let low = g.low in omega arith;
    }

-- After the last range.
pub all_passed : (h : GPTHeader) (align : ℕ) (rs : List (ℕ × ℕ)) (i p : ℕ) (slots new : List (ℕ × ℕ)) → IsNonDecreasingBy (λ r. r.0) rs → length rs ≤ i
    → Going h align rs i slots p → AddsGap align p h.last_usable_lba slots new → AreSlots (IsOutside h rs) align new
all_passed h align rs i p slots new sorted all g (gap room slot) =
    let low = g.low in
    let run : IsRun (IsOutside h rs) (p + 1) h.last_usable_lba = record {
      ordered = omega arith;
      inside = λ x from upto. outside_between h rs i p x sorted g.ends (omega arith) (omega arith) upto (λ d l. absurd (omega arith));
      before = λ x at. let e : p ≡ x = omega arith in subst (λ (y : ℕ). ¬ IsOutside h rs y) e g.swept.wall;
      after = past_last h rs (h.last_usable_lba + 1) (omega arith);
    } in
    let end : ℕ = h.last_usable_lba + 1 in
    let swept = swept_run (IsOutside h rs) align slots new p h.last_usable_lba end g.swept run (omega arith) (λ x above upto. past_last h rs x above) slot in
    swept_all (IsOutside h rs) align new end (λ x above. past_last h rs x (omega arith)) swept
all_passed h align rs i p slots new sorted all g (no_gap none same) =
    subst (λ (l : List (ℕ × ℕ)). AreSlots (IsOutside h rs) align l) (sym same)
    (swept_all (IsOutside h rs) align slots p (λ x above. past_last h rs x (omega arith)) g.swept)

-- The last sector of a slot fits.
pub slots_fit : (h : GPTHeader) (align : ℕ) (rs slots : List (ℕ × ℕ)) → h.last_usable_lba < 2 ^ 64 → AreSlots (IsOutside h rs) align slots
    → All (λ s. s.0 + s.1 ≤ 2 ^ 64) slots
slots_fit h align rs slots small are = All-weaker (λ s. IsAlignedSlot (IsOutside h rs) align s.0 s.1) (λ s. s.0 + s.1 ≤ 2 ^ 64) (λ s slot.
    let last = slot.run.inside slot.last slot.run.ordered (omega arith) in
    let high = last.usable.high in
    let long = slot.long in
    omega arith) slots are.each
