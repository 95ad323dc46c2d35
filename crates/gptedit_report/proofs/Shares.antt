-- The cells of a map beyond one for each region, shared in proportion.
use Rattle.std.proofs.Common.{arith, ◌≡◌, ◌∙◌, ap, ◌≤◌, ◌<◌, ◌+◌, ◌-◌, ◌*◌, ◌/◌, ◌^◌, ◌++◌, ◌∷◌, [], ℕ, List, ⊎_elim, drop, get_or, length, sum}
use Rattle.std.proofs.lemmas.Bool.{cases_lt}
use Rattle.std.proofs.lemmas.List.Sums.{sum_by-append, sum_by-drop_more}
use Rattle.std.proofs.lemmas.Nat.{div_below, le-div, mul-le}
use Rattle.std.proofs.Math.Nat.{div-mul-le_self, mul-le-mul_left, zero-add}

pub half_less : (n : ℕ) → 0 < n → n / 2 < n
half_less n some = div_below n 2 n (omega arith) (omega arith)

-- a rounded share is within all
pub share_within : (spare part whole : ℕ) → part < whole → (spare * part + whole / 2) / whole ≤ spare
share_within spare part whole less =
    let some : 0 < whole = omega arith in
    let most : spare * part ≤ spare * whole = mul-le-mul_left spare (omega arith) in
    let below = div_below (spare * part + whole / 2) whole (spare + 1) some (omega (arith, most, half_less whole some)) in
    omega (arith, below)

-- the shares up to a region's end: not below those up to its start, within all, and not above their part
share_grows : (spare used before x total until : ℕ) → used ≤ spare → used * total ≤ spare * before + total / 2 → before + x ≤ total
    → (before + x ≡ total → until ≡ spare) → (before + x < total → until ≡ (spare * (before + x) + total / 2) / total)
    → (used ≤ until) × (until ≤ spare) × (until * total ≤ spare * (before + x) + total / 2)
share_grows spare used before x total until within part fits whole rest = ⊎_elim
    (λ (less : before + x < total).
    let some : 0 < total = omega arith in
    let up : spare * before ≤ spare * (before + x) = mul-le-mul_left spare (omega arith) in (
      rw (rest less) (le-div used (spare * (before + x) + total / 2) total some (omega (arith, part, up))),
      rw (rest less) (share_within spare (before + x) total less),
      rw (rest less) (div-mul-le_self (spare * (before + x) + total / 2) total),
    ))
    (λ (more : total ≤ before + x).
    let same : before + x ≡ total = omega arith in
    (rw (whole same) within, omega (arith, whole same), rw (whole same, same) (omega arith)))
    (cases_lt (before + x) total)

-- the same in a list of lengths, and what is left of them
pub share_steps : (lengths : List ℕ) (i spare used before x total until : ℕ) → i < length lengths → x ≡ get_or lengths i 0
    → before + sum (drop i lengths) ≡ sum lengths → total ≡ sum lengths → used ≤ spare → used * total ≤ spare * before + total / 2
    → (before + x ≡ total → until ≡ spare) → (before + x < total → until ≡ (spare * (before + x) + total / 2) / total)
    → ((used ≤ until) × (until ≤ spare) × (until * total ≤ spare * (before + x) + total / 2)) × (before + x + sum (drop (i + 1) lengths) ≡ sum lengths)
share_steps lengths i spare used before x total until inside is left all within part whole rest =
    let next : sum (drop i lengths) ≡ get_or lengths i 0 + sum (drop (i + 1) lengths) = sum_by-drop_more (λ n. n) lengths i 0 inside in
    let passed : before + x + sum (drop (i + 1) lengths) ≡ sum lengths = omega (arith, next, is, left) in
    (share_grows spare used before x total until within part (omega (arith, passed, all)) whole rest, passed)

-- a share of 64-bit lengths fits 128 bits
pub share_fits : (count total : ℕ) → count < 2 ^ 64 → total ≤ count * (2 ^ 64 - 1) → (64 - count + 1) * total < 2 ^ 128
share_fits count total short bound = ⊎_elim
    (λ (less : count < 64). omega (arith, mul-le (64 - count + 1) total 65 (64 * (2 ^ 64 - 1)) (omega arith) (omega (arith, bound))))
    (λ (more : 64 ≤ count). let none : 64 - count ≡ 0 = omega arith in rw (none) (omega (arith, bound, short)))
    (cases_lt count 64)

-- the sum after a push
pub sum_more : (xs : List ℕ) (x : ℕ) → sum (xs ++ x ∷ []) ≡ sum xs + x
sum_more xs x = sum_by-append (λ n. n) xs (x ∷ []) ∙ ap (λ (n : ℕ). sum xs + n) (zero-add x)
