-- Bits of attributes that are set and cleared.
use Rattle.std.proofs.Common.{◌≡◌, ◌<◌, ◌^◌, ℕ, zero, suc, ◌-◌, max, min, w64, arith, refl, ap, ◌∙◌}
use Rattle.std.specs.Prelude.{nat_eq, if◌then◌else◌, bit_and, bit_or}
use Rattle.std.specs.Int.{bit_at}
use Rattle.std.proofs.lemmas.Nat.Bits.{bit_at-lt, bit_at_and, bit_at_not, bit_at_or}

-- A bit that is set is 1, one that is cleared is 0, and another one is unchanged.
abbrev pub picked : ℕ → ℕ → ℕ → ℕ
picked set clear b = if nat_eq set 1 then 1 else (if nat_eq clear 1 then 0 else b)

picks : (s c b x : ℕ) → s < 2 → c < 2 → b < 2 → x ≡ max (min b (1 - c)) s → x ≡ picked s c b
picks zero zero b x ls lc lb is = omega (arith, is, lb)
picks zero (suc zero) b x ls lc lb is = omega (arith, is, lb)
picks zero (suc (suc c)) b x ls lc lb is = absurd (omega (arith, lc))
picks (suc zero) c b x ls lc lb is = omega (arith, is, lb, lc)
picks (suc (suc s)) c b x ls lc lb is = absurd (omega (arith, ls))

pub applied_bit : (old clear set k : ℕ) → clear < 2 ^ 64 → k < 64
    → bit_at (bit_or (bit_and old (18446744073709551615 - clear)) set) k ≡ picked (bit_at set k) (bit_at clear k) (bit_at old k)
applied_bit old clear set k fits within =
    picks (bit_at set k) (bit_at clear k) (bit_at old k) _ (bit_at-lt set k) (bit_at-lt clear k) (bit_at-lt old k)
    (bit_at_or (bit_and old (18446744073709551615 - clear)) set k
    ∙ ap (λ (x : ℕ). max x (bit_at set k)) (bit_at_and old (18446744073709551615 - clear) k ∙ ap (λ (x : ℕ). min (bit_at old k) x) (bit_at_not w64 clear k fits within)))

-- One change after another.
chained : (s c t d x y b : ℕ) → s < 2 → c < 2 → t < 2 → d < 2 → x ≡ picked t d s → y ≡ max c d → picked x y b ≡ picked t d (picked s c b)
chained s c (suc zero) d x y b ls lc lt ld is also = rw (is) refl
chained s zero zero (suc zero) x y b ls lc lt ld is also = rw (is, also) refl
chained s (suc zero) zero (suc zero) x y b ls lc lt ld is also = rw (is, also) refl
chained zero zero zero zero x y b ls lc lt ld is also = rw (is, also) refl
chained zero (suc zero) zero zero x y b ls lc lt ld is also = rw (is, also) refl
chained (suc zero) c zero zero x y b ls lc lt ld is also = rw (is) refl
chained (suc (suc s)) c zero zero x y b ls lc lt ld is also = absurd (omega (arith, ls))
chained s (suc (suc c)) t d x y b ls lc lt ld is also = absurd (omega (arith, lc))
chained s c (suc (suc t)) d x y b ls lc lt ld is also = absurd (omega (arith, lt))
chained s c t (suc (suc d)) x y b ls lc lt ld is also = absurd (omega (arith, ld))

pub chained_bit : (s c t d x k b : ℕ) → bit_at x k ≡ picked (bit_at t k) (bit_at d k) (bit_at s k)
    → picked (bit_at x k) (bit_at (bit_or c d) k) b ≡ picked (bit_at t k) (bit_at d k) (picked (bit_at s k) (bit_at c k) b)
chained_bit s c t d x k b is =
    chained (bit_at s k) (bit_at c k) (bit_at t k) (bit_at d k) (bit_at x k) (bit_at (bit_or c d) k) b
    (bit_at-lt s k) (bit_at-lt c k) (bit_at-lt t k) (bit_at-lt d k) is (bit_at_or c d k)
