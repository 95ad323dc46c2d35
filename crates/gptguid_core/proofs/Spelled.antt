-- Texts survive a round trip.
use Rattle.std.proofs.Common.{◌≡◌, ℕ, ◌+◌, ◌*◌, ◌/◌, ◌<◌, ◌==◌, ◌&&◌, ◌↔◌, ◌⊎◌, inl, inr, List, [], length, slice_index, get_or, Bool, true, false, true≢false, if◌then◌else◌, Option, Some, None, is_some, unwrap_or, Result, Ok, Err, IsOk, IfOk, arith, refl, sym, subst, ap, ◌∙◌}
use Rattle.std.proofs.lemmas.Bool.{and_parts, eqb-true}
use Rattle.std.proofs.lemmas.Bool.Decides.{nat_tests}
use Rattle.std.proofs.lemmas.List.{get_or-map, length-map}
use Rattle.std.proofs.lemmas.List.Folds.{list_all_at}
use Rattle.std.specs.Char.{to_ascii_lowercase, to_ascii_uppercase}
use Rattle.std.specs.List.{list_all}
use Rattle.std.specs.Result.{result_ok}
use Rattle.std.specs.Str.{str_to_ascii_lowercase, str_to_ascii_uppercase}
use Rattle.uuid.specs.Text.{by_index, byte_of_digits, digit_place, digits_of, has_hyphens, hex_digit, hyphen_place, hyphenated_text, is_hex_digit, is_hyphen_place, lower, nibble, parsed, parsed_hyphenated, parsed_simple, simple_text, upper, value_of}
use Rattle.uuid.proofs.TextLemmas.{by_index_at, by_index_length, by_index_same, nibble_even, nibble_odd}

-- The result of a read, as an option.
pub read_as : {E : Type 0} (r : Result (List ℕ) E) (o : Option (List ℕ)) → (IsOk r ↔ ((u : List ℕ) × (o ≡ Some u))) → IfOk r (λ u. Some u ≡ o) → result_ok r ≡ o
read_as (Ok u) o ok bytes = bytes
read_as (Err e) None ok bytes = refl
read_as (Err e) (Some u) ok bytes = absurd (true≢false (sym (ok.1 (u, refl))))

-- The parser of all forms, by the length of a text.
pub parsed_at_32 : (s : List ℕ) → length s ≡ 32 → parsed s ≡ parsed_simple s
parsed_at_32 s len = rw len refl

pub parsed_at_36 : (s : List ℕ) → length s ≡ 36 → parsed s ≡ parsed_hyphenated s
parsed_at_36 s len = rw len refl

some_parts : (b : Bool) (x v : List ℕ) → (if b then Some x else None) ≡ Some v → (b ≡ true) × (x ≡ v)
some_parts true x v e = (refl, ap (λ (o : Option (List ℕ)). unwrap_or o []) e)
some_parts false x v e = absurd (true≢false (sym (ap is_some e)))

both_parts : (b : Bool) (x o : Option (List ℕ)) (v : List ℕ) → o ≡ (if b then x else None) → o ≡ Some v → (b ≡ true) × (x ≡ Some v)
both_parts true x o v is e = (refl, sym is ∙ e)
both_parts false x o v is e = absurd (true≢false (sym (ap is_some (sym is ∙ e))))

-- A test of all elements holds at each index.
passes_at : (p : ℕ → Bool) (xs : List ℕ) (k : ℕ) (b : Bool) → p (get_or xs k 0) ≡ b → list_all p xs ≡ true → k < length xs → b ≡ true
passes_at p xs k true is all within = refl
passes_at p xs k false is all within = absurd (true≢false (sym all ∙ list_all_at p xs k 0 within is))

-- A digit has a value below 16, and is the digit of that value in one of the two cases.
value_small : (c : ℕ) → is_hex_digit c ≡ true → value_of c < 16
value_small c hex = grind (arith, nat_tests)

lower_again : (c : ℕ) → is_hex_digit c ≡ true → to_ascii_lowercase c ≡ hex_digit lower (value_of c)
lower_again c hex = grind (arith, nat_tests)

upper_again : (c : ℕ) → is_hex_digit c ≡ true → to_ascii_uppercase c ≡ hex_digit upper (value_of c)
upper_again c hex = grind (arith, nat_tests)

-- The result of reading 32 digits: each half byte has the value of its digit.
record IsRead (hex u : List ℕ) : Type 0 where
  pub long : length hex ≡ 32
  pub all : list_all is_hex_digit hex ≡ true
  pub bytes : by_index 16 (byte_of_digits hex) ≡ u

is_read : (hex u : List ℕ) → parsed_simple hex ≡ Some u → IsRead hex u
is_read hex u e =
    let parts = some_parts ((length hex == 32) && list_all is_hex_digit hex) (by_index 16 (byte_of_digits hex)) u e in
    let tests = and_parts (length hex == 32) (list_all is_hex_digit hex) parts.0 in
    record { long = eqb-true (length hex) 32 tests.0; all = tests.1; bytes = parts.1 }

digit_at : (hex u : List ℕ) → IsRead hex u → (k : ℕ) → k < 32 → is_hex_digit (slice_index hex k) ≡ true
digit_at hex u is k within = passes_at is_hex_digit hex k (is_hex_digit (slice_index hex k)) refl is.all (rw is.long within)

nibbles_at : (hex u : List ℕ) → IsRead hex u → (i : ℕ) → i < 16
    → (nibble u (2 * i) ≡ value_of (slice_index hex (2 * i))) × (nibble u (2 * i + 1) ≡ value_of (slice_index hex (2 * i + 1)))
nibbles_at hex u is i within =
    let byte : slice_index u i ≡ value_of (slice_index hex (2 * i)) * 16 + value_of (slice_index hex (2 * i + 1)) =
    ap (λ (l : List ℕ). slice_index l i) (sym is.bytes) ∙ by_index_at 16 (byte_of_digits hex) i 0 within in
    let high = value_small (slice_index hex (2 * i)) (digit_at hex u is (2 * i) (omega arith)) in
    let low = value_small (slice_index hex (2 * i + 1)) (digit_at hex u is (2 * i + 1) (omega arith)) in
    (nibble_even u i ∙ omega (arith, byte, high, low), nibble_odd u i ∙ omega (arith, byte, high, low))

even_or_odd : (k : ℕ) → (2 * (k / 2) ≡ k) ⊎ (2 * (k / 2) + 1 ≡ k)
even_or_odd k = grind (arith)

nibble_at : (hex u : List ℕ) → IsRead hex u → (k : ℕ) → k < 32 → nibble u k ≡ value_of (slice_index hex k)
nibble_at hex u is k within =
    let both = nibbles_at hex u is (k / 2) (omega arith) in
    elim (even_or_odd k) [
      | inl even ↦ subst (λ j. nibble u j ≡ value_of (slice_index hex j)) even both.0
      | inr odd ↦ subst (λ j. nibble u j ≡ value_of (slice_index hex j)) odd both.1
    ]

-- Digits are written back in lower case.
pub digits_again : (s u : List ℕ) → parsed_simple s ≡ Some u → simple_text lower u ≡ str_to_ascii_lowercase s
digits_again s u e =
    let is = is_read s u e in
    sym (by_index_same (str_to_ascii_lowercase s) 32 (λ k. hex_digit lower (nibble u k)) (length-map s to_ascii_lowercase ∙ is.long)
    (λ k d within. get_or-map to_ascii_lowercase s k 0 d (rw is.long within)
    ∙ lower_again (slice_index s k) (digit_at s u is k within)
    ∙ ap (λ v. hex_digit lower v) (sym (nibble_at s u is k within))))

-- A hyphen is at its place.
hyphens_at : (s : List ℕ) (k : ℕ) → has_hyphens s ≡ true → is_hyphen_place k ≡ true → slice_index s k ≡ 45
hyphens_at s k stand is = grind (arith, nat_tests)

-- A character of a text, written back.
place_again : (s u : List ℕ) → length s ≡ 36 → has_hyphens s ≡ true → IsRead (digits_of s) u → (k : ℕ) (b : Bool) → k < 36 → is_hyphen_place k ≡ b
    → to_ascii_uppercase (slice_index s k) ≡ (if b then 45 else hex_digit upper (nibble u (digit_place k)))
place_again s u long stand is k true within place = ap to_ascii_uppercase (hyphens_at s k stand place)
place_again s u long stand is k false within place =
    let i = digit_place k in
    let inside : i < 32 = grind (arith, nat_tests) in
    let back : hyphen_place i ≡ k = grind (arith, nat_tests) in
    let same : slice_index (digits_of s) i ≡ slice_index s k =
    by_index_at 32 (λ j. slice_index s (hyphen_place j)) i 0 inside ∙ ap (λ j. slice_index s j) back in
    ap to_ascii_uppercase (sym same) ∙ upper_again (slice_index (digits_of s) i) (digit_at (digits_of s) u is i inside)
    ∙ ap (λ v. hex_digit upper v) (sym (nibble_at (digits_of s) u is i inside))

-- A text is written back in upper case.
pub text_again : (s u : List ℕ) → parsed_hyphenated s ≡ Some u → hyphenated_text upper u ≡ str_to_ascii_uppercase s
text_again s u e =
    let parts = both_parts ((length s == 36) && has_hyphens s) (parsed_simple (digits_of s)) (parsed_hyphenated s) u refl e in
    let tests = and_parts (length s == 36) (has_hyphens s) parts.0 in
    let long = eqb-true (length s) 36 tests.0 in
    let is = is_read (digits_of s) u parts.1 in
    sym (by_index_same (str_to_ascii_uppercase s) 36 (λ k. if is_hyphen_place k then 45 else hex_digit upper (nibble u (digit_place k)))
    (length-map s to_ascii_uppercase ∙ long)
    (λ k d within. get_or-map to_ascii_uppercase s k 0 d (rw long within)
    ∙ place_again s u long tests.1 is k (is_hyphen_place k) within refl))

-- 16 bytes are read.
pub read_long : (hex u : List ℕ) → parsed_simple hex ≡ Some u → length u ≡ 16
read_long hex u e = subst (λ l. length l ≡ 16) (is_read hex u e).bytes (by_index_length 16 (byte_of_digits hex))

pub text_read_long : (s u : List ℕ) → parsed_hyphenated s ≡ Some u → length u ≡ 16
text_read_long s u e =
    read_long (digits_of s) u (both_parts ((length s == 36) && has_hyphens s) (parsed_simple (digits_of s)) (parsed_hyphenated s) u refl e).1
