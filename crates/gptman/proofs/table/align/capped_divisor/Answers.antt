use Prim.Native.Nat.{◌∣◌}
use Rattle.std.proofs.Common.{◌≡◌, ◌≢◌, ℕ, ◌%◌, inl, inr, arith, ap, subst, ◌∙◌}
use Rattle.std.proofs.Math.Nat.{le_of_dvd, mod-eq-zero_of_dvd}
use Rattle.std.proofs.lemmas.Bool.{cases_lt}
use Rattle.gptman.proofs.table.align.capped_divisor.Goals as goal

-- A number with a remainder does not divide.
no_divisor : (k n : ℕ) → n % k ≢ 0 → ¬ (k ∣ n)
no_divisor k n rest d = rest (mod-eq-zero_of_dvd k d)

pub loop-divisor-init : goal.loop-divisor-init
loop-divisor-init c = (omega arith, omega arith, λ k more within d. let le = le_of_dvd c.requires d in omega arith)

pub loop-divisor-preserved : goal.loop-divisor-preserved
loop-divisor-preserved c =
    let low = c.loop-divisor.invariant.0 in
    let not_one : c.loop-divisor.divisor ≢ 1 = λ e. c.loop-divisor-test.true (ap (λ (d : ℕ). c.args.number % d) e ∙ (omega arith)) in (
      omega arith,
      omega arith,
      λ k more within d. elim (cases_lt c.loop-divisor.divisor k) [
        | inl later ↦ c.loop-divisor.invariant.2 k later within d
        | inr here ↦
            let e : k ≡ c.loop-divisor.divisor = omega arith in
            no_divisor c.loop-divisor.divisor c.args.number c.loop-divisor-test.true (subst (λ (k : ℕ). k ∣ c.args.number) e d)
      ],
    )
