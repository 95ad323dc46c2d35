-- Numbers of sectors that are rounded down to a multiple of the alignment.
use Prim.Native.Nat.{◌∣◌}
use Rattle.std.proofs.Common.{◌≡◌, ◌≤◌, ◌<◌, ◌∙◌, sym, ap, inl, inr, ℕ, ◌+◌, ◌-◌, ◌*◌, ◌/◌, ◌%◌, ◌^◌, not, subst, arith}
use Rattle.std.specs.Prelude.{nat_eq, nat_lt}
use Rattle.std.proofs.Math.Nat.{add-mul, dvd-mul_left, le-mul_of_pos_right, mul_assoc, mul-pos}
use Rattle.std.proofs.lemmas.Bool.{cases_eq, eq-eqb, le-ltb, lt-ltb, ne_eqb}
use Rattle.std.proofs.lemmas.Nat.{div-add-mod', mod_below, mul-lt}
use Rattle.gptedit_core.specs.Measuring.{IsFloor}

-- ---- numbers, without products

low_of : (times rest value : ℕ) → times + rest ≡ value → times ≤ value
low_of times rest value is = omega (arith, is)

next_of : (times rest step value : ℕ) → times + rest ≡ value → rest < step → value < times + step
next_of times rest step value is small = omega (arith, is, small)

below_of : (n product value bound : ℕ) → n ≤ product → product ≤ value → value < bound → n < bound
below_of n product value bound a b fits = omega (arith, a, b, fits)

same_rest : (times rest value : ℕ) → times + rest ≡ value → rest ≡ 0 → times ≡ value
same_rest times rest value is none = omega (arith, is, none)

no_rest : (times rest value : ℕ) → times + rest ≡ value → times ≡ value → rest ≡ 0
no_rest times rest value is same = omega (arith, is, same)

-- ---- the largest multiple

pub step_some : (align unit : ℕ) → 0 < align → 0 < unit → 0 < align * unit
step_some align unit aligned counts = mul-pos aligned counts

pub step_fits : (align unit : ℕ) → align < 2 ^ 64 → unit < 2 ^ 64 → align * unit < 2 ^ 128
step_fits align unit a b = mul-lt align unit (2 ^ 64) (2 ^ 64) a b

module _ (align unit value : ℕ) (aligned : 0 < align) (counts : 0 < unit) where
  abbrev step : ℕ
  step = align * unit

  abbrev times : ℕ
  times = value / (align * unit)

  split : times * step + value % step ≡ value
  split = div-add-mod' value (align * unit)

  small : value % step < step
  small = mod_below value (align * unit) (mul-pos aligned counts)

  same : times * align * unit ≡ times * step
  same = mul_assoc times align unit

  -- It is found by a division.
  pub floor_of : IsFloor align unit value (times * align)
  floor_of = record {
    multiple = dvd-mul_left align times;
    low = subst (λ (x : ℕ). x ≤ value) (sym same) (low_of (times * step) (value % step) value split);
    next = subst (λ (x : ℕ). value < x) (sym (add-mul (times * align) align unit))
        (subst (λ (x : ℕ). value < x + step) (sym same) (next_of (times * step) (value % step) step value split small));
  }

  -- It fits where the value does.
  pub times_fit : (bound : ℕ) → value < bound → times * align < bound
  times_fit bound fits = below_of (times * align) (times * align * unit) value bound (le-mul_of_pos_right (times * align) counts) floor_of.low fits

  -- It is the value, if the division has no remainder.
  pub rest_is : nat_eq (value % step) 0 ≡ nat_eq (times * align * unit) value
  rest_is = elim (cases_eq (value % step) 0) [
    | inl none ↦ eq-eqb (value % step) 0 none ∙ sym (eq-eqb (times * align * unit) value (same ∙ same_rest (times * step) (value % step) value split none))
    | inr some ↦ ne_eqb (value % step) 0 some ∙ sym (ne_eqb (times * align * unit) value (λ is. some (no_rest (times * step) (value % step) value split (sym same ∙ is))))
  ]

-- The largest multiple of the alignment up to a number of sectors.
pub floor_at : (align value : ℕ) → 0 < align → IsFloor align 1 value (value - value % align)
floor_at align value aligned =
    let small : value % align < align = mod_below value align aligned in
    let split : value / align * align + value % align ≡ value = div-add-mod' value align in
    let is : value / align * align ≡ value - value % align = omega (arith, split) in record {
      multiple = subst (λ (x : ℕ). align ∣ x) is (dvd-mul_left align (value / align));
      low = omega arith;
      next = omega (arith, small, split);
    }

none_low : (over : ℕ) → over ≡ 0 → over ≤ 0
none_low over none = omega (arith, none)

some_low : (over : ℕ) → (over ≡ 0 → ⊥) → 0 < over
some_low over some = omega (arith, some)

none_over : (exact n end over : ℕ) → exact + n ≡ end → over ≡ 0 → exact - over + n ≡ end
none_over exact n end over is none = omega (arith, is, none)

some_over : (exact n end over : ℕ) → exact + n ≡ end → over ≤ exact → exact - over + n ≡ end → over ≡ 0
some_over exact n end over is low same = omega (arith, is, low, same)

-- A position is exact, if nothing was rounded off.
pub over_is : (exact n end over : ℕ) → exact + n ≡ end → over ≤ exact → nat_lt 0 over ≡ not (nat_eq (exact - over + n) end)
over_is exact n end over is low = elim (cases_eq over 0) [
  | inl none ↦ le-ltb 0 over (none_low over none) ∙ sym (ap not (eq-eqb (exact - over + n) end (none_over exact n end over is none)))
  | inr some ↦ lt-ltb 0 over (some_low over some) ∙ sym (ap not (ne_eqb (exact - over + n) end (λ same. some (some_over exact n end over is low same))))
]
