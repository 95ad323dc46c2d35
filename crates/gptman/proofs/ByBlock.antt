-- Eight bytes processed by the register at once.
use Rattle.std.proofs.Common.{◌≡◌, ℕ, zero, suc, ◌+◌, ◌*◌, ◌^◌, ◌<◌, List, [], ◌∷◌, length, take, drop, get_or, take-add, take-append-drop, arith, refl, sym, ap, ◌∙◌, bit_xor}
use Rattle.std.specs.Prelude.{fold}
use Rattle.std.specs.Simd.{first_chunks}
use Rattle.std.specs.Int.Bits.{xor_lt, xor_assoc, xor_comm, xor_zero_r, xor_shifted}
use Rattle.std.proofs.lemmas.List.Sums.{fold-append}
use Rattle.byteorder.specs.Endian.{little_bytes}
use Rattle.gptman_disk.specs.Bytes.{le, AreBytes}
use Rattle.gptman.specs.Register.{step, steps, with_byte, with_message}
use Rattle.gptman.proofs.ByTable.{steps_xor, steps_shifted}
use Rattle.gptman.proofs.Numbers.{head_below, bytes_take, bytes_drop, bytes_low, le_below, le_of}

steps_more : (n k r : ℕ) → steps (n + k) r ≡ steps k (steps n r)
unfolding steps
steps_more zero k r =
    let none : 0 + k ≡ k = omega arith in
    ap (λ (m : ℕ). steps m r) none
steps_more (suc n) k r =
    let more : suc n + k ≡ suc (n + k) = omega arith in
    ap (λ (m : ℕ). steps m r) more ∙ steps_more n k (step r)

-- The steps for one more byte: those of the low byte, and eight fewer of the rest.
steps_by_byte : (n b x : ℕ) → b < 256 → steps (8 * suc n) (b + 256 * x) ≡ bit_xor (steps (8 * suc n) b) (steps (8 * n) x)
steps_by_byte n b x h =
    let split : b + 256 * x ≡ bit_xor (x * 2 ^ 8) b = omega arith ∙ sym (xor_shifted x 8 b h) in
    let longer : 8 * suc n ≡ 8 + 8 * n = omega arith in
    let rest : steps (8 * suc n) (x * 2 ^ 8) ≡ steps (8 * n) x =
    ap (λ (m : ℕ). steps m (x * 2 ^ 8)) longer ∙ steps_more 8 (8 * n) (x * 2 ^ 8) ∙ ap (steps (8 * n)) (steps_shifted 8 x) in
    ap (steps (8 * suc n)) (split ∙ xor_comm (x * 2 ^ 8) b)
    ∙ steps_xor (8 * suc n) b (x * 2 ^ 8)
    ∙ ap (bit_xor (steps (8 * suc n) b)) rest

-- A message, processed as one number.
at_once : (r : ℕ) (m : List ℕ) → AreBytes m → with_message r m ≡ steps (8 * length m) (bit_xor r (le m))
unfolding steps with_byte
at_once r [] h = sym (xor_zero_r r)
at_once r (b ∷ m) h =
    let longer : 8 * suc (length m) ≡ 8 + 8 * length m = omega arith in
    let split : b + 256 * le m ≡ bit_xor b (le m * 2 ^ 8) =
    omega arith ∙ sym (xor_shifted (le m) 8 b (head_below b m h)) ∙ xor_comm (le m * 2 ^ 8) b in
    let first : steps 8 (bit_xor r (b + 256 * le m)) ≡ bit_xor (steps 8 (bit_xor r b)) (le m) =
    ap (λ (x : ℕ). steps 8 (bit_xor r x)) split
    ∙ ap (steps 8) (sym (xor_assoc r b (le m * 2 ^ 8)))
    ∙ steps_xor 8 (bit_xor r b) (le m * 2 ^ 8)
    ∙ ap (bit_xor (steps 8 (bit_xor r b))) (steps_shifted 8 (le m)) in
    at_once (steps 8 (bit_xor r b)) m (λ i. h (suc i))
    ∙ sym (ap (λ (n : ℕ). steps n (bit_xor r (b + 256 * le m))) longer
    ∙ steps_more 8 (8 * length m) (bit_xor r (b + 256 * le m))
    ∙ ap (steps (8 * length m)) first)

-- Zero bits do not change a zero register.
steps_of_zero : (n : ℕ) → steps n 0 ≡ 0
steps_of_zero n =
    let none : 0 ≡ 0 * 2 ^ n = omega arith in
    ap (steps n) none ∙ steps_shifted n 0

-- The words of the bytes, each followed by as many zero bytes as there are bytes after it, and n more, XORed with a
-- sum.
abbrev pub with_words : ℕ → ℕ → List ℕ → ℕ
with_words n sum [] = sum
with_words n sum (b ∷ bs) = with_words n (bit_xor sum (steps (8 * suc (n + length bs)) b)) bs

with_words_are : (n sum : ℕ) (bs : List ℕ) → AreBytes bs → with_words n sum bs ≡ bit_xor sum (steps (8 * (n + length bs)) (le bs))
with_words_are n sum [] h = sym (ap (bit_xor sum) (steps_of_zero (8 * (n + 0))) ∙ xor_zero_r sum)
with_words_are n sum (b ∷ bs) h =
    let more : 8 * suc (n + length bs) ≡ 8 * (n + suc (length bs)) = omega arith in
    with_words_are n (bit_xor sum (steps (8 * suc (n + length bs)) b)) bs (λ i. h (suc i))
    ∙ xor_assoc sum (steps (8 * suc (n + length bs)) b) (steps (8 * (n + length bs)) (le bs))
    ∙ ap (bit_xor sum) (sym (steps_by_byte (n + length bs) b (le bs) (head_below b bs h))
    ∙ ap (λ (k : ℕ). steps k (b + 256 * le bs)) more)

-- The words of four bytes, at the end of a message.
four_words : (e f g h : ℕ) → AreBytes (e ∷ f ∷ g ∷ h ∷ []) → with_words 0 (steps 32 e) (f ∷ g ∷ h ∷ []) ≡ steps 64 (le (e ∷ f ∷ g ∷ h ∷ []) * 2 ^ 32)
four_words e f g h bytes =
    with_words_are 0 (steps 32 e) (f ∷ g ∷ h ∷ []) (λ i. bytes (suc i))
    ∙ sym (steps_by_byte 3 e (le (f ∷ g ∷ h ∷ [])) (bytes 0))
    ∙ sym (steps_more 32 32 (le (e ∷ f ∷ g ∷ h ∷ []) * 2 ^ 32)
    ∙ ap (steps 32) (steps_shifted 32 (le (e ∷ f ∷ g ∷ h ∷ []))))

-- Eight bytes: the words of the last four, then those of the first four combined with the register.
pub block_by_words : (r a b c d e f g h : ℕ) → r < 2 ^ 32 → AreBytes (a ∷ b ∷ c ∷ d ∷ e ∷ f ∷ g ∷ h ∷ []) → with_words 4 (with_words 0 (steps 32 e) (f ∷ g ∷ h ∷ [])) (little_bytes 4 (bit_xor (le (a ∷ b ∷ c ∷ d ∷ [])) r)) ≡ with_message r (a ∷ b ∷ c ∷ d ∷ e ∷ f ∷ g ∷ h ∷ [])
block_by_words r a b c d e f g h small bytes =
    let m = a ∷ b ∷ c ∷ d ∷ e ∷ f ∷ g ∷ h ∷ [] in
    let low = le (a ∷ b ∷ c ∷ d ∷ []) in
    let high = le (e ∷ f ∷ g ∷ h ∷ []) in
    let sum = bit_xor low r in
    let behind = with_words 0 (steps 32 e) (f ∷ g ∷ h ∷ []) in
    let first : AreBytes (a ∷ b ∷ c ∷ d ∷ []) = bytes_take 4 m bytes in
    let below : low < 2 ^ 32 = le_below (a ∷ b ∷ c ∷ d ∷ []) 4 refl first in
    let fits : sum < 256 ^ 4 = xor_lt 32 low r below small in
    let number : le (little_bytes 4 sum) ≡ sum = le_of 4 sum fits in
    let split : le m ≡ bit_xor (high * 2 ^ 32) low = omega arith ∙ sym (xor_shifted high 32 low below) in
    let turned : bit_xor (high * 2 ^ 32) sum ≡ bit_xor r (le m) =
    sym (xor_assoc (high * 2 ^ 32) low r) ∙ xor_comm (bit_xor (high * 2 ^ 32) low) r ∙ ap (bit_xor r) (sym split) in
    with_words_are 4 behind (little_bytes 4 sum) (bytes_low 0 4 sum)
    ∙ ap (λ (x : ℕ). bit_xor behind (steps 64 x)) number
    ∙ ap (λ (x : ℕ). bit_xor x (steps 64 sum)) (four_words e f g h (bytes_drop 4 m bytes))
    ∙ sym (steps_xor 64 (high * 2 ^ 32) sum)
    ∙ ap (steps 64) turned
    ∙ sym (at_once r m bytes)

-- Eight bytes by index.
pub eight_parts : (m : List ℕ) → length m ≡ 8 → get_or m 0 0 ∷ get_or m 1 0 ∷ get_or m 2 0 ∷ get_or m 3 0 ∷ get_or m 4 0 ∷ get_or m 5 0 ∷ get_or m 6 0 ∷ get_or m 7 0 ∷ [] ≡ m
eight_parts (a ∷ b ∷ c ∷ d ∷ e ∷ f ∷ g ∷ h ∷ []) long = refl
eight_parts _ long = absurd (omega arith)

chunks_taken : (r k : ℕ) (m : List ℕ) → fold with_message r (first_chunks 8 k m) ≡ with_message r (take (8 * k) m)
chunks_taken r zero m = refl
chunks_taken r (suc k) m =
    let longer : 8 * suc k ≡ 8 + 8 * k = omega arith in
    chunks_taken (with_message r (take 8 m)) k (drop 8 m)
    ∙ sym (fold-append with_byte r (take 8 m) (take (8 * k) (drop 8 m)))
    ∙ ap (with_message r) (sym (take-add 8 (8 * k) m) ∙ ap (λ (n : ℕ). take n m) (sym longer))

-- Blocks, and then the bytes after them.
pub chunks_and_rest : (r k : ℕ) (m : List ℕ) → with_message (fold with_message r (first_chunks 8 k m)) (drop (k * 8) m) ≡ with_message r m
chunks_and_rest r k m =
    let turned : k * 8 ≡ 8 * k = omega arith in
    ap (λ (s : ℕ). with_message s (drop (k * 8) m)) (chunks_taken r k m)
    ∙ ap (λ (n : ℕ). with_message (with_message r (take (8 * k) m)) (drop n m)) turned
    ∙ sym (fold-append with_byte r (take (8 * k) m) (drop (8 * k) m))
    ∙ ap (with_message r) (take-append-drop (8 * k) m)
