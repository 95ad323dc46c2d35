-- Multiples of a number, and the first one from a number on.
use Prim.Native.Nat.{◌∣◌}
use Rattle.std.proofs.Common.{sym, ◌≡◌, ℕ, ◌+◌, ◌-◌, ◌*◌, ◌/◌, ◌%◌, ◌<◌, ◌≤◌, inl, inr, subst, arith}
use Rattle.std.proofs.Math.Nat.{dvd-sub, dvd-mul_left, le_of_dvd, dvd_of_mod-eq-zero}
use Rattle.std.proofs.lemmas.Bool.{cases_lt}
use Rattle.gptman.specs.Place.{IsFirstMultiple}

-- Two multiples differ by at least n.
pub multiples_apart : (n a b : ℕ) → n ∣ a → n ∣ b → a < b → a + n ≤ b
multiples_apart n a b p q h =
    let d : n ≤ b - a = le_of_dvd (omega arith) (dvd-sub n q p) in omega arith

-- A multiple less than n after a is the first.
pub first_multiple_at : (n a s : ℕ) → n ∣ s → a ≤ s → s < a + n → IsFirstMultiple n a s
first_multiple_at n a s d from near = record {
  multiple = d;
  from = from;
  least = λ t e h. elim (cases_lt t s) [
    | inl less ↦ let far = multiples_apart n t s e d less in absurd (omega arith)
    | inr more ↦ more
  ];
}

-- There is only one first multiple.
pub one_first_multiple : (n a s t : ℕ) → IsFirstMultiple n a s → IsFirstMultiple n a t → s ≡ t
one_first_multiple n a s t p q =
    let up = p.least t q.multiple q.from in
    let down = q.least s p.multiple p.from in omega arith

-- It is a, if that is a multiple,
pub first_here : (n a : ℕ) → 0 < n → a % n ≡ 0 → IsFirstMultiple n a a
first_here n a pos e = first_multiple_at n a a (dvd_of_mod-eq-zero n e) (omega arith) (omega arith)

-- else it is the next one.
pub first_later : (n a : ℕ) → 0 < n → 0 < a % n → IsFirstMultiple n a (a + (n - a % n))
first_later n a pos over =
    let low : a % n < n = omega arith in
    let next : n ∣ (a / n + 1) * n = dvd-mul_left n (a / n + 1) in
    let is : (a / n + 1) * n ≡ a + (n - a % n) = omega arith in
    first_multiple_at n a (a + (n - a % n)) (subst (λ (x : ℕ). n ∣ x) is next) (omega arith) (omega arith)

-- The first multiple, by its distance.
pub first_by : (n a skip : ℕ) → 0 < n → (a % n ≡ 0 → skip ≡ 0) → (0 < a % n → skip ≡ n - a % n) → IsFirstMultiple n a (a + skip)
first_by n a skip pos none some = elim (cases_lt 0 (a % n)) [
  | inl over ↦ subst (λ (k : ℕ). IsFirstMultiple n a (a + k)) (sym (some over)) (first_later n a pos over)
  | inr even ↦
      let zero_skip = none (omega arith) in
      let e : a ≡ a + skip = omega arith in
      subst (λ (s : ℕ). IsFirstMultiple n a s) e (first_here n a pos (omega arith))
]

-- There is a first multiple.
pub a_first_multiple : (n a : ℕ) → 0 < n → (s : ℕ) × IsFirstMultiple n a s
a_first_multiple n a pos = elim (cases_lt 0 (a % n)) [
  | inl over ↦ (a + (n - a % n), first_later n a pos over)
  | inr even ↦ (a, first_here n a pos (omega arith))
]
