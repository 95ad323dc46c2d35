-- Eight steps of the register at once.
use Rattle.std.proofs.Common.{◌≡◌, ℕ, zero, suc, ◌*◌, ◌/◌, ◌%◌, ◌^◌, ◌<◌, inl, inr, get_or, arith, refl, sym, ap, ◌∙◌, bit_xor, map, List, []}
use Rattle.std.specs.Prelude.{nat_eq, if◌then◌else◌}
use Rattle.std.specs.List.{range_with_len}
use Rattle.std.specs.Int.Bits.{xor_shr, xor_mod, xor_assoc, xor_comm, xor_zero_r, xor_shifted}
use Rattle.std.proofs.Math.Nat.{pow-suc}
use Rattle.std.proofs.lemmas.List.FromFn.{get_or-map-range_with_len}
use Rattle.gptman.specs.declared.crc.table.TheConstants.{TABLES}
use Rattle.gptman.specs.Register.{step, steps, with_byte}
use Rattle.gptman.proofs.Division.{parity, step_even}

-- The register after each byte and k zero bytes.
abbrev row : ℕ → List ℕ
row k = map (steps (8 * suc k)) (range_with_len 0 256)

-- The words of the tables, computed.
tables_are : TABLES ≡ map row (range_with_len 0 8)
unfolding steps step
tables_are = refl

pub word_at : (k i : ℕ) → k < 8 → i < 256 → get_or (get_or TABLES k []) i 0 ≡ steps (8 * suc k) i
word_at k i hk hi =
    ap (λ (t : List (List ℕ)). get_or (get_or t k []) i 0) tables_are
    ∙ ap (λ (t : List ℕ). get_or t i 0) (get_or-map-range_with_len row 0 8 k k [] hk (omega arith))
    ∙ get_or-map-range_with_len (steps (8 * suc k)) 0 256 i i 0 hi (omega arith)

-- Terms of an XOR exchanged.
xor_swap : (a b c d : ℕ) → bit_xor (bit_xor a b) (bit_xor c d) ≡ bit_xor (bit_xor a c) (bit_xor b d)
xor_swap a b c d =
    xor_assoc a b (bit_xor c d)
    ∙ ap (bit_xor a) (sym (xor_assoc b c d) ∙ ap (λ (x : ℕ). bit_xor x d) (xor_comm b c) ∙ xor_assoc c b d)
    ∙ sym (xor_assoc a c (bit_xor b d))

-- The bit shifted out of the register, fed back.
abbrev fed : ℕ → ℕ
fed p = if nat_eq p 1 then 0xEDB88320 else 0

fed_xor : (a b : ℕ) → fed (bit_xor a b % 2) ≡ bit_xor (fed (a % 2)) (fed (b % 2))
fed_xor a b =
    ap fed (xor_mod a b 1)
    ∙ elim (parity a) [
      | inl x ↦ elim (parity b) [ inl y ↦ rw (x, y) refl | inr y ↦ rw (x, y) refl ]
      | inr x ↦ elim (parity b) [ inl y ↦ rw (x, y) refl | inr y ↦ rw (x, y) refl ]
    ]

-- A step is linear.
step_xor : (a b : ℕ) → step (bit_xor a b) ≡ bit_xor (step a) (step b)
unfolding step
step_xor a b =
    ap (λ (h : ℕ). bit_xor h (fed (bit_xor a b % 2))) (xor_shr a b 1)
    ∙ ap (bit_xor (bit_xor (a / 2) (b / 2))) (fed_xor a b)
    ∙ xor_swap (a / 2) (b / 2) (fed (a % 2)) (fed (b % 2))

pub steps_xor : (n a b : ℕ) → steps n (bit_xor a b) ≡ bit_xor (steps n a) (steps n b)
unfolding steps
steps_xor zero a b = refl
steps_xor (suc n) a b = ap (steps n) (step_xor a b) ∙ steps_xor n (step a) (step b)

-- Zeros that are shifted out change nothing.
pub steps_shifted : (n h : ℕ) → steps n (h * 2 ^ n) ≡ h
unfolding steps
steps_shifted zero h = omega arith
steps_shifted (suc n) h =
    let p = pow-suc 2 n in
    let twice : h * 2 ^ suc n ≡ h * 2 ^ n * 2 = rw p (omega arith) in
    let even : h * 2 ^ suc n % 2 ≡ 0 = omega (arith, twice) in
    let half : h * 2 ^ suc n / 2 ≡ h * 2 ^ n = omega (arith, twice) in
    ap (steps n) (step_even (h * 2 ^ suc n) even ∙ half) ∙ steps_shifted n h

-- Eight steps, by the low byte and the rest.
steps_byte : (x : ℕ) → steps 8 x ≡ bit_xor (steps 8 (x % 256)) (x / 256)
steps_byte x =
    let low : x % 256 < 2 ^ 8 = omega arith in
    let split : bit_xor (x / 256 * 2 ^ 8) (x % 256) ≡ x = xor_shifted (x / 256) 8 (x % 256) low ∙ omega arith in
    ap (steps 8) (sym split) ∙ steps_xor 8 (x / 256 * 2 ^ 8) (x % 256)
    ∙ ap (λ (h : ℕ). bit_xor h (steps 8 (x % 256))) (steps_shifted 8 (x / 256)) ∙ xor_comm (x / 256) (steps 8 (x % 256))

-- A byte, by the table of the low byte.
pub with_byte_by_table : (r b : ℕ) → b < 256 → bit_xor (steps 8 (bit_xor r b % 256)) (r / 256) ≡ with_byte r b
unfolding with_byte
with_byte_by_table r b h =
    let none : b / 256 ≡ 0 = omega arith in
    let high : bit_xor r b / 256 ≡ r / 256 = xor_shr r b 8 ∙ rw none (xor_zero_r (r / 256)) in
    sym (steps_byte (bit_xor r b) ∙ ap (bit_xor (steps 8 (bit_xor r b % 256))) high)
