-- Numbers as bytes, lowest first.
use Rattle.std.proofs.Common.{lit<, ◌≡◌, ℕ, zero, suc, ◌+◌, ◌*◌, ◌-◌, ◌/◌, ◌^◌, ◌<◌, ◌≤◌, List, [], ◌∷◌, length, take, drop, arith, refl, sym, ap, ◌∙◌}
use Rattle.std.specs.Prelude.{slice_range, Bool, false, ◌&&◌, nat_eq}
use Rattle.std.specs.List.{list_all}
use Rattle.std.specs.Int.{byte_at, bytes_low_first}
use Rattle.std.proofs.Math.Nat.{pow-suc}
use Rattle.std.proofs.lemmas.List.{append-nil, length-take, length-drop}
use Rattle.std.proofs.lemmas.Bool.Decides.{nat_tests}
use Rattle.std.proofs.lemmas.Nat.{mod_below}
use Rattle.byteorder.specs.Endian.{little_from, little_number, little_bytes}
use Rattle.byteorder.specs.Numbers.{little_from-cons, little_number-reads_back, length-bytes_low_first}
use Rattle.gptman_disk.specs.Bytes.{le, AreBytes}

-- The number that `byteorder` reads is that of the bytes.
little_from_is : (xs : List ℕ) → little_from 0 (length xs) xs ≡ le xs
little_from_is [] = refl
little_from_is (x ∷ xs) =
    let rest = little_from_is xs in
    let moved = little_from-cons 0 (length xs) x xs in
    omega (arith, moved, rest)

pub little_number_is : (n : ℕ) (xs : List ℕ) → length xs ≡ n → little_number n xs ≡ le xs
little_number_is n xs len = ap (λ (k : ℕ). little_from 0 k xs) (sym len) ∙ little_from_is xs

-- A number is that of its bytes.
pub le_of : (n x : ℕ) → x < 256 ^ n → le (little_bytes n x) ≡ x
le_of n x h =
    sym (little_number_is n (little_bytes n x) (length-bytes_low_first 0 n x))
    ∙ ap (little_number n) (sym (append-nil (little_bytes n x))) ∙ little_number-reads_back n x [] h

pub head_below : (x : ℕ) (xs : List ℕ) → AreBytes (x ∷ xs) → x < 256
head_below x xs h = h 0

no_sum : (x n : ℕ) → nat_eq (x + 256 * n) 0 ≡ nat_eq x 0 && nat_eq n 0
no_sum zero zero = refl
no_sum zero (suc n) =
    let more : nat_eq (0 + 256 * suc n) 0 ≡ false = grind (arith, nat_tests) in
    let second : nat_eq (suc n) 0 ≡ false = grind (arith, nat_tests) in
    rw (more, second) refl
no_sum (suc x) n =
    let more : nat_eq (suc x + 256 * n) 0 ≡ false = grind (arith, nat_tests) in
    let first : nat_eq (suc x) 0 ≡ false = grind (arith, nat_tests) in
    rw (more, first) refl

-- A number is zero exactly if all its bytes are.
pub zero_bytes : (xs : List ℕ) → nat_eq (le xs) 0 ≡ list_all (λ x. nat_eq x 0) xs
zero_bytes [] = refl
zero_bytes (x ∷ xs) = no_sum x (le xs) ∙ ap (λ (b : Bool). nat_eq x 0 && b) (zero_bytes xs)

-- Bytes with the same number are the same.
pub le_injective : (b c : List ℕ) → length b ≡ length c → AreBytes b → AreBytes c → le b ≡ le c → b ≡ c
le_injective [] [] len hb hc e = refl
le_injective [] (y ∷ c) len hb hc e = absurd (omega arith)
le_injective (x ∷ b) [] len hb hc e = absurd (omega arith)
le_injective (x ∷ b) (y ∷ c) len hb hc e =
    let lx = head_below x b hb in
    let ly = head_below y c hc in
    let same : x ≡ y = omega (arith, lx, ly, e) in
    let rest : le b ≡ le c = omega (arith, lx, ly, e) in
    let tails = le_injective b c (omega arith) (λ i. hb (suc i)) (λ i. hc (suc i)) rest in
    cc

pub bytes_take : (n : ℕ) (b : List ℕ) → AreBytes b → AreBytes (take n b)
bytes_take zero b h i = lit< tt
bytes_take (suc n) [] h i = h i
bytes_take (suc n) (x ∷ b) h zero = h 0
bytes_take (suc n) (x ∷ b) h (suc i) = bytes_take n b (λ k. h (suc k)) i

pub bytes_drop : (n : ℕ) (b : List ℕ) → AreBytes b → AreBytes (drop n b)
bytes_drop zero b h = h
bytes_drop (suc n) [] h = h
bytes_drop (suc n) (x ∷ b) h = bytes_drop n b (λ k. h (suc k))

-- A number of n bytes is below 256 ^ n.
pub le_below : (b : List ℕ) (n : ℕ) → length b ≡ n → AreBytes b → le b < 256 ^ n
le_below [] zero len h = omega arith
le_below [] (suc n) len h = absurd (omega arith)
le_below (x ∷ b) zero len h = absurd (omega arith)
le_below (x ∷ b) (suc n) len h =
    let first = h 0 in
    let rest = le_below b n (omega arith) (λ i. h (suc i)) in
    let p = pow-suc 256 n in
    omega (arith, first, rest, p)

byte_below : (i n : ℕ) → byte_at i n < 256
byte_below zero n = omega arith
byte_below (suc i) n = mod_below (n / 256 ^ suc i) 256 (lit< tt)

pub bytes_low : (i k n : ℕ) → AreBytes (bytes_low_first i k n)
bytes_low i zero n j = lit< tt
bytes_low i (suc k) n zero = byte_below i n
bytes_low i (suc k) n (suc j) = bytes_low (suc i) k n j

length-slice : (b : List ℕ) (at n : ℕ) → at + n ≤ length b → length (slice_range b at (at + n)) ≡ n
length-slice b at n h =
    omega (arith, length-take (at + n - at) (drop at b), length-drop at b)

bytes_slice : (b : List ℕ) (at n : ℕ) → AreBytes b → AreBytes (slice_range b at (at + n))
bytes_slice b at n h = bytes_take (at + n - at) (drop at b) (bytes_drop at b h)

-- The bytes of the number at an offset are the bytes there.
pub le_back : (n : ℕ) (b : List ℕ) (at : ℕ) → at + n ≤ length b → AreBytes b → little_bytes n (le (slice_range b at (at + n))) ≡ slice_range b at (at + n)
le_back n b at h bytes =
    let len = length-slice b at n h in
    let here = bytes_slice b at n bytes in
    let below = le_below (slice_range b at (at + n)) n len here in
    le_injective (little_bytes n (le (slice_range b at (at + n)))) _ (length-bytes_low_first 0 n _ ∙ sym len) (bytes_low 0 n _) here (le_of n (le (slice_range b at (at + n))) below)
