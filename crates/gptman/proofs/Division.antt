-- Long division in a register.
use Rattle.std.proofs.Common.{lit<, ◌≡◌, ℕ, zero, suc, ◌+◌, ◌-◌, ◌*◌, ◌/◌, ◌%◌, ◌^◌, ◌<◌, Bool, true, false, ◌⊎◌, inl, inr, List, [], ◌∷◌, ◌++◌, length, get_or, reverse, replicate, arith, refl, sym, ap, ◌∙◌, bit_xor}
use Rattle.std.specs.Prelude.{nat_eq, not, flat_map, if◌then◌else◌}
use Rattle.std.specs.Int.Bits.{xor_lt, xor_shr, xor_mod, xor_zero_r, xor_comm}
use Rattle.std.proofs.Math.Nat.{pow-suc}
use Rattle.std.proofs.lemmas.Bool.{cases_lt}
use Rattle.std.proofs.lemmas.List.{append_assoc, reverse-append, length-append, length-replicate}
use Rattle.gptman.specs.Crc.{low_bits, number, minus, divide, crc_of}
use Rattle.gptman_disk.specs.Bytes.{AreBytes}
use Rattle.gptman.specs.Register.{step, steps, with_byte, with_message}

-- The sum of two bits without a carry.
abbrev xor : Bool → Bool → Bool
xor p b = if p then not b else b

pub parity : (a : ℕ) → (a % 2 ≡ 0) ⊎ (a % 2 ≡ 1)
parity a = elim (cases_lt (a % 2) 1) [ inl low ↦ inl (omega arith) | inr high ↦ inr (omega arith) ]

-- The lowest bit of an XOR.
xor_lowest : (a b : ℕ) → nat_eq (bit_xor a b % 2) 1 ≡ xor (nat_eq (a % 2) 1) (nat_eq (b % 2) 1)
xor_lowest a b =
    ap (λ (x : ℕ). nat_eq x 1) (xor_mod a b 1)
    ∙ elim (parity a) [
      | inl x ↦ elim (parity b) [ inl y ↦ rw (x, y) refl | inr y ↦ rw (x, y) refl ]
      | inr x ↦ elim (parity b) [ inl y ↦ rw (x, y) refl | inr y ↦ rw (x, y) refl ]
    ]

xor_one_by_one : (p q b : Bool) → xor p (xor q b) ≡ xor (xor p q) b
xor_one_by_one true true true = refl
xor_one_by_one true true false = refl
xor_one_by_one true false b = refl
xor_one_by_one false q b = refl

xor_false : (b : Bool) → xor b false ≡ b
xor_false true = refl
xor_false false = refl

-- Equal lists from equal heads and tails.
cons_same : {b c : Bool} {xs ys : List Bool} → b ≡ c → xs ≡ ys → b ∷ xs ≡ c ∷ ys
cons_same p q = cc

-- Subtracting b and then a is subtracting their XOR.
minus_twice : (n a b : ℕ) (xs : List Bool) → minus (low_bits n a) (minus (low_bits n b) xs) ≡ minus (low_bits n (bit_xor a b)) xs
minus_twice zero a b xs = refl
minus_twice (suc n) a b [] = refl
minus_twice (suc n) a b (x ∷ xs) =
    cons_same (xor_one_by_one _ _ x ∙ ap (λ (q : Bool). xor q x) (sym (xor_lowest a b)))
    (minus_twice n (a / 2) (b / 2) xs ∙ ap (λ (c : ℕ). minus (low_bits n c) xs) (sym (xor_shr a b 1)))

minus_zero : (n : ℕ) (xs : List Bool) → minus (low_bits n 0) xs ≡ xs
minus_zero zero xs = refl
minus_zero (suc n) [] = refl
minus_zero (suc n) (x ∷ xs) = cons_same refl (minus_zero n xs)

half_below : (n a : ℕ) → a < 2 ^ suc n → a / 2 < 2 ^ n
half_below n a h = let p = pow-suc 2 n in omega (arith, p)

-- A bit above the highest of a number subtracts nothing.
minus_above : (n a : ℕ) (xs : List Bool) → a < 2 ^ n → minus (low_bits (suc n) a) xs ≡ minus (low_bits n a) xs
minus_above zero a [] h = refl
minus_above zero a (x ∷ xs) h = let e : a ≡ 0 = omega arith in rw e refl
minus_above (suc n) a [] h = refl
minus_above (suc n) a (x ∷ xs) h = cons_same refl (minus_above n (a / 2) xs (half_below n a h))

-- The bits of a number, subtracted from zeros.
minus_zeros : (n k b : ℕ) (xs : List Bool) → b < 2 ^ n → minus (low_bits (n + k) b) (replicate n false ++ xs) ≡ low_bits n b ++ xs
minus_zeros zero k b xs h =
    let e : b ≡ 0 = omega arith in
    let z : 0 + k ≡ k = omega arith in
    rw (z, e) (minus_zero k xs)
minus_zeros (suc n) k b xs h =
    let z : suc n + k ≡ suc (n + k) = omega arith in
    rw z (cons_same (xor_false _) (minus_zeros n k (b / 2) xs (half_below n b h)))

-- The register and the bits ahead, combined as the register processes them.
minus_absorbs : (n k r b : ℕ) (xs : List Bool) → b < 2 ^ n
    → minus (low_bits (n + k) r) (low_bits n b ++ xs) ≡ minus (low_bits (n + k) (bit_xor r b)) (replicate n false ++ xs)
minus_absorbs n k r b xs h =
    ap (minus (low_bits (n + k) r)) (sym (minus_zeros n k b xs h)) ∙ minus_twice (n + k) r b (replicate n false ++ xs)

-- ---- the steps of the division

divide_set : (n : ℕ) (bs : List Bool) → divide (suc n) (true ∷ bs) ≡ divide n (minus (low_bits 32 0xEDB88320) bs)
unfolding divide
divide_set n bs = refl

divide_clear : (n : ℕ) (bs : List Bool) → divide (suc n) (false ∷ bs) ≡ divide n bs
unfolding divide
divide_clear n bs = refl

-- The first remaining bit, and the others.
first_bit : (w r : ℕ) (xs : List Bool) → minus (low_bits (suc w) r) (false ∷ xs) ≡ nat_eq (r % 2) 1 ∷ minus (low_bits w (r / 2)) xs
first_bit w r xs = cons_same (xor_false _) refl

-- A register stays within 32 bits.
step_below : (r : ℕ) → r < 2 ^ 32 → step r < 2 ^ 32
unfolding step
step_below r h =
    elim (parity r) [
      | inl x ↦ rw x (let e = xor_zero_r (r / 2) in omega (arith, e))
      | inr x ↦ rw x (xor_lt 32 (r / 2) 0xEDB88320 (omega arith) (lit< tt))
    ]

pub step_even : (r : ℕ) → r % 2 ≡ 0 → step r ≡ r / 2
unfolding step
step_even r x = rw x (xor_zero_r (r / 2))

pub step_odd : (r : ℕ) → r % 2 ≡ 1 → step r ≡ bit_xor 0xEDB88320 (r / 2)
unfolding step
step_odd r x = rw x (xor_comm (r / 2) 0xEDB88320)

-- A step of the division is a step of the register.
divide_step : (n r : ℕ) (xs : List Bool) → r < 2 ^ 32
    → divide (suc n) (minus (low_bits 32 r) (false ∷ xs)) ≡ divide n (minus (low_bits 32 (step r)) xs)
divide_step n r xs h =
    let half : r / 2 < 2 ^ 31 = omega arith in
    let above : minus (low_bits 31 (r / 2)) xs ≡ minus (low_bits 32 (r / 2)) xs = sym (minus_above 31 (r / 2) xs half) in
    ap (divide (suc n)) (first_bit 31 r xs)
    ∙ elim (parity r) [
      | inl x ↦
          ap (λ (p : ℕ). divide (suc n) (nat_eq p 1 ∷ minus (low_bits 31 (r / 2)) xs)) x
          ∙ divide_clear n _ ∙ ap (divide n) above ∙ ap (λ (c : ℕ). divide n (minus (low_bits 32 c) xs)) (sym (step_even r x))
      | inr x ↦
          ap (λ (p : ℕ). divide (suc n) (nat_eq p 1 ∷ minus (low_bits 31 (r / 2)) xs)) x
          ∙ divide_set n _
          ∙ ap (λ (ys : List Bool). divide n (minus (low_bits 32 0xEDB88320) ys)) above
          ∙ ap (divide n) (minus_twice 32 0xEDB88320 (r / 2) xs)
          ∙ ap (λ (c : ℕ). divide n (minus (low_bits 32 c) xs)) (sym (step_odd r x))
    ]

steps_below : (k r : ℕ) → r < 2 ^ 32 → steps k r < 2 ^ 32
unfolding steps
steps_below zero r h = h
steps_below (suc k) r h = steps_below k (step r) (step_below r h)

-- As many steps as there are zeros ahead.
divide_steps : (k n m r : ℕ) (xs : List Bool) → m ≡ k + n → r < 2 ^ 32
    → divide m (minus (low_bits 32 r) (replicate k false ++ xs)) ≡ divide n (minus (low_bits 32 (steps k r)) xs)
unfolding steps
divide_steps zero n m r xs e h = let same : m ≡ n = omega arith in rw same refl
divide_steps (suc k) n zero r xs e h = absurd (omega arith)
divide_steps (suc k) n (suc m) r xs e h =
    divide_step m r (replicate k false ++ xs) h ∙ divide_steps k n m (step r) xs (omega arith) (step_below r h)

minus_from_zeros : (n r : ℕ) → minus (low_bits n r) (replicate n false) ≡ low_bits n r
minus_from_zeros zero r = refl
minus_from_zeros (suc n) r = cons_same (xor_false _) (minus_from_zeros n (r / 2))

length-low_bits : (n r : ℕ) → length (low_bits n r) ≡ n
length-low_bits zero r = refl
length-low_bits (suc n) r = let h = length-low_bits n (r / 2) in omega (arith, h)

below_32 : (r b : ℕ) → r < 2 ^ 32 → b < 256 → bit_xor r b < 2 ^ 32
below_32 r b h k = xor_lt 32 r b h (omega arith)

register_below : (m : List ℕ) (r : ℕ) → ((i : ℕ) → get_or m i 0 < 256) → r < 2 ^ 32 → with_message r m < 2 ^ 32
unfolding with_byte
register_below [] r bytes h = h
register_below (b ∷ m) r bytes h =
    register_below m (steps 8 (bit_xor r b)) (λ i. bytes (suc i)) (steps_below 8 (bit_xor r b) (below_32 r b h (bytes 0)))

-- The bits of a message, lowest first in each byte.
abbrev message_bits : List ℕ → List Bool
message_bits m = flat_map (low_bits 8) m

-- The whole division is the register after all bytes.
divide_all : (m : List ℕ) (r : ℕ) → ((i : ℕ) → get_or m i 0 < 256) → r < 2 ^ 32
    → divide (length (message_bits m)) (minus (low_bits 32 r) (message_bits m ++ replicate 32 false)) ≡ low_bits 32 (with_message r m)
unfolding with_byte divide
divide_all [] r bytes h = minus_from_zeros 32 r
divide_all (b ∷ m) r bytes h =
    let rest : List Bool = message_bits m ++ replicate 32 false in
    let taken : bit_xor r b < 2 ^ 32 = below_32 r b h (bytes 0) in
    let long : length (low_bits 8 b ++ message_bits m) ≡ 8 + length (message_bits m) =
    length-append (low_bits 8 b) (message_bits m) ∙ ap (λ (n : ℕ). n + length (message_bits m)) (length-low_bits 8 b) in
    ap (λ (xs : List Bool). divide (length (low_bits 8 b ++ message_bits m)) (minus (low_bits 32 r) xs)) (append_assoc (low_bits 8 b) (message_bits m) (replicate 32 false))
    ∙ ap (divide (length (low_bits 8 b ++ message_bits m))) (minus_absorbs 8 24 r b rest (bytes 0))
    ∙ divide_steps 8 (length (message_bits m)) (length (low_bits 8 b ++ message_bits m)) (bit_xor r b) rest long taken
    ∙ divide_all m (steps 8 (bit_xor r b)) (λ i. bytes (suc i)) (steps_below 8 (bit_xor r b) taken)

-- ---- the ends

-- n bits complemented.
abbrev complement : ℕ → List Bool → List Bool
complement n bs = minus (replicate n true) bs

length-complement : (n : ℕ) (xs : List Bool) → length (complement n xs) ≡ length xs
length-complement zero xs = refl
length-complement (suc n) [] = refl
length-complement (suc n) (x ∷ xs) = let h = length-complement n xs in omega (arith, h)

-- The number of bits, lowest first.
abbrev low_number : List Bool → ℕ
low_number [] = 0
low_number (b ∷ bs) = (if b then 1 else 0) + 2 * low_number bs

number-push : (xs : List Bool) (b : Bool) → number (xs ++ b ∷ []) ≡ 2 * number xs + (if b then 1 else 0)
number-push [] true = refl
number-push [] false = refl
number-push (true ∷ xs) b =
    let h = number-push xs b in
    let len = length-append xs (b ∷ []) in
    let p = pow-suc 2 (length xs) in
    let e : length (xs ++ b ∷ []) ≡ suc (length xs) = omega (arith, len) in
    rw e (omega (arith, h, p))
number-push (false ∷ xs) b = let h = number-push xs b in omega (arith, h)

number-reverse : (xs : List Bool) → number (reverse xs) ≡ low_number xs
number-reverse [] = refl
number-reverse (x ∷ xs) =
    let turned : reverse (x ∷ xs) ≡ reverse xs ++ x ∷ [] = reverse-append (x ∷ []) xs in
    let h = number-reverse xs in
    let push = number-push (reverse xs) x in
    ap number turned ∙ omega (arith, h, push)

complement_number : (n r : ℕ) → r < 2 ^ n → low_number (complement n (low_bits n r)) + r + 1 ≡ 2 ^ n
complement_number zero r h = omega arith
complement_number (suc n) r h =
    let rest = complement_number n (r / 2) (half_below n r h) in
    let p = pow-suc 2 n in
    elim (parity r) [
      | inl x ↦ rw x (omega (arith, rest, p, x))
      | inr x ↦ rw x (omega (arith, rest, p, x))
    ]

-- The checksum from the register.
pub crc_of_register : (m : List ℕ) → ((i : ℕ) → get_or m i 0 < 256) → crc_of m ≡ 2 ^ 32 - 1 - with_message (2 ^ 32 - 1) m
unfolding crc_of
crc_of_register m bytes =
    let padded : List Bool = message_bits m ++ replicate 32 false in
    let low : 2 ^ 32 - 1 < 2 ^ 32 = omega arith in
    let bound = register_below m (2 ^ 32 - 1) bytes low in
    let len : length (complement 32 padded) - 32 ≡ length (message_bits m) =
    omega (arith, length-complement 32 padded, length-append (message_bits m) (replicate 32 false), length-replicate 32 false) in
    let starts : complement 32 padded ≡ minus (low_bits 32 (2 ^ 32 - 1)) padded = refl in
    let left : divide (length (complement 32 padded) - 32) (complement 32 padded) ≡ low_bits 32 (with_message (2 ^ 32 - 1) m) =
    ap (λ (n : ℕ). divide n (complement 32 padded)) len ∙ ap (divide (length (message_bits m))) starts ∙ divide_all m (2 ^ 32 - 1) bytes low in
    let back = number-reverse (complement 32 (low_bits 32 (with_message (2 ^ 32 - 1) m))) in
    let turned = complement_number 32 (with_message (2 ^ 32 - 1) m) bound in
    ap (λ (xs : List Bool). number (reverse (complement 32 xs))) left ∙ omega (arith, back, turned)

-- ---- for the loops

pub bytes_append : (xs ys : List ℕ) → AreBytes xs → AreBytes ys → AreBytes (xs ++ ys)
bytes_append [] ys hx hy i = hy i
bytes_append (x ∷ xs) ys hx hy zero = hx 0
bytes_append (x ∷ xs) ys hx hy (suc i) = bytes_append xs ys (λ k. hx (suc k)) hy i
