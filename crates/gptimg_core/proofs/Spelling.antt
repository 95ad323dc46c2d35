-- The parsers return what the words spell.
use Rattle.std.proofs.Common.{◌≡◌, ◌≢◌, ◌∙◌, ◌⊎◌, ℕ, ◌+◌, ◌*◌, ◌/◌, ◌%◌, ◌^◌, ◌<◌, ◌&&◌, List, [], ◌∷◌, length, replicate, Bool, true, false, cond, inl, inr, sym, subst, ap, refl, arith, rules}
use Rattle.std.proofs.lemmas.Bool.Decides.{nat_tests}
use Rattle.std.proofs.lemmas.Fmt.{decimal_is_IsNumeral}
use Rattle.std.proofs.lemmas.Str.Parse.{IsNumeralModel, numerals_by_value}
use Rattle.std.specs.Char.{is_ascii_digit}
use Rattle.std.specs.Cmp.Lexicographic.{bytes_decides}
use Rattle.std.specs.Fmt.{decimal}
use Rattle.std.specs.List.{list_all}
use Rattle.std.specs.Option.{option_and_then, option_map}
use Rattle.std.specs.Prelude.{bytes_eq, codes, nat_eq, nat_lt, IfSome, Option, Some, None, Result, Ok, Err, String}
use Rattle.std.specs.Result.{result_ok}
use Rattle.std.specs.Str.Parse.{digits_value}
use Rattle.hex.proofs.HexLemmas.{decode_of-even, decode_pairs-encode_with, decode_pairs-ok, decode_sized-ok, decode_sized-twice, length-encode_with, IsDigits-lower_digits}
use Rattle.hex.proofs.Pairs.{cons_byte, decode_pairs-ok_pair}
use Rattle.hex.specs.Hex.{decode_pairs, decode_sized, digit_or_error, encode_lower, hex_digit_value, lower_digits, pair_value, value_at, ◌>>=◌}
use Rattle.hex.specs.declared.error.FromHexError.{FromHexError}
use Rattle.gptimg_core.specs.Asks.{writes, AskFor, AskToWrite}
use Rattle.gptimg_core.specs.Spelling.{choice_word, kind_word, sector_word, spell, spell_change, AreDigitPairs, IsAllowed, IsAllowedAddition, IsAllowedChange, IsDigits, IsEntryNumber, IsGuid, IsNumeral, IsSectorSize, IsSize, IsSpelled, IsSpelledAddition, IsSpelledChange}
use Rattle.gptimg_core.specs.Words.{addition_in, addition_of, change_in, check_in, choice_in, command_in, entry_number_in, free_in, guid_in, kind_in, mbr_in, named_change_in, named_command_in, new_in, number_in, remove_in, sector_size_in, show_in, size_in, type_in, without_words}
use Rattle.gptimg_core.specs.declared.words.Addition.{Addition}
use Rattle.gptimg_core.specs.declared.words.Change.{Change}
use Rattle.gptimg_core.specs.declared.words.Change.TheVariants.{Add, Remove, Sort, Grow}
use Rattle.gptimg_core.specs.declared.words.Choice.{Choice}
use Rattle.gptimg_core.specs.declared.words.Choice.TheVariants.{First, Last, Best}
use Rattle.gptimg_core.specs.declared.words.Command.{Command}
use Rattle.gptimg_core.specs.declared.words.Command.TheVariants.{New, Mbr, Check, Show, Free, Change as Changing}

-- ---- tests and options

is_false : (b : Bool) → (b ≡ true → ⊥) → b ≡ false
is_false true not = absurd (not refl)
is_false false not = refl

-- the result of a test of two texts
chosen_by : {A : Type 0} (b : Bool) (P : Type 0) (x y z : A) → (b ≡ true → P) → cond b x y ≡ z → (P × (x ≡ z)) ⊎ (y ≡ z)
chosen_by true P x y z is h = inl (is refl, h)
chosen_by false P x y z is h = inr h

chosen : {A : Type 0} (text word : List ℕ) (x y z : A) → cond (bytes_eq text word) x y ≡ z → ((text ≡ word) × (x ≡ z)) ⊎ (y ≡ z)
chosen text word x y z h = chosen_by (bytes_eq text word) (text ≡ word) x y z (bytes_decides text word).0 h

-- the value beside the word that is the text, or the other value
abbrev pick : {A : Type 0} → List ℕ → List (List ℕ × A) → A → A
pick text [] other = other
pick text (row ∷ rows) other = cond (bytes_eq text row.0) row.1 (pick text rows other)

-- each value has the property if the text is its word
abbrev Each : {A : Type 0} → (A → Type 0) → List ℕ → List (List ℕ × Option A) → Type 0
Each P text [] = Unit {0}
Each P text (row ∷ rows) = ((a : _) → text ≡ row.0 → row.1 ≡ Some a → P a) × Each P text rows

-- the picked value has the property, if the other value has
picked : {A : Type 0} (P : A → Type 0) (text : List ℕ) (rows : List (List ℕ × Option A)) (other : Option A) (a : A) → Each P text rows
    → (other ≡ Some a → P a) → pick text rows other ≡ Some a → P a
picked P text [] other a each rest h = rest h
picked P text (row ∷ rows) other a each rest h = elim (chosen text row.0 row.1 (pick text rows other) (Some a) h) [
  | inl is ↦ each.0 a is.0 is.1
  | inr h ↦ picked P text rows other a each.1 rest h
]

all_true : (a b c : Bool) → (a && b && c) ≡ true → (a ≡ true) × (b ≡ true) × (c ≡ true)
all_true true true true h = (refl, refl, refl)
all_true true true false h = cc h
all_true true false c h = cc h
all_true false b c h = cc h

some_same : {A : Type 0} (x y : A) → Some x ≡ Some y → x ≡ y
some_same x y h = cc h

passed : {A : Type 0} (b : Bool) (x y : A) → cond b (Some x) None ≡ Some y → (b ≡ true) × (x ≡ y)
passed true x y h = (refl, some_same x y h)
passed false x y h = cc h

not_refused : {A : Type 0} (b : Bool) (x y : A) → cond b None (Some x) ≡ Some y → (b ≡ false) × (x ≡ y)
not_refused true x y h = cc h
not_refused false x y h = (refl, some_same x y h)

map_parts : {A B : Type 0} (f : A → B) (a : Option A) (b : B) → option_map f a ≡ Some b → (x : A) × (a ≡ Some x) × (f x ≡ b)
map_parts f None b h = cc h
map_parts f (Some x) b h = (x, refl, some_same (f x) b h)

both_parts : {A B C : Type 0} (f : A → B → C) (a : Option A) (b : Option B) (c : C) → option_and_then (λ x. option_map (λ y. f x y) b) a ≡ Some c
    → (x : A) × (y : B) × (a ≡ Some x) × (b ≡ Some y) × (f x y ≡ c)
both_parts f None b c h = cc h
both_parts f (Some x) None c h = cc h
both_parts f (Some x) (Some y) c h = (x, y, refl, refl, some_same (f x y) c h)

both_of : {A B C : Type 0} (f : A → B → C) (a : Option A) (b : Option B) (x : A) (y : B) → a ≡ Some x → b ≡ Some y
    → option_and_then (λ x. option_map (λ y. f x y) b) a ≡ Some (f x y)
both_of f a b x y is_a is_b = rw (is_a, is_b) refl

map_of : {A B : Type 0} (f : A → B) (a : Option A) (x : A) → a ≡ Some x → option_map f a ≡ Some (f x)
map_of f a x is = rw is refl

-- ---- numbers

-- texts of digits, and their numbers
digits : IsNumeralModel (λ ds. list_all is_ascii_digit ds ≡ true) (digits_value 10)
digits = numerals_by_value _ (search rules)

number_spelled : (text : List ℕ) (n : ℕ) → number_in text ≡ Some n → IsNumeral text n × (n < 2 ^ 64)
number_spelled text n h =
    let p = passed (list_all is_ascii_digit text && nat_lt 0 (length text) && nat_lt (digits_value 10 text) (2 ^ 64)) (digits_value 10 text) n h in
    let t = all_true (list_all is_ascii_digit text) (nat_lt 0 (length text)) (nat_lt (digits_value 10 text) (2 ^ 64)) p.0 in
    let some : nat_lt 0 (length text) ≡ true = t.1 in
    let fits : nat_lt (digits_value 10 text) (2 ^ 64) ≡ true = t.2 in
    let is : digits_value 10 text ≡ n = p.1 in
    ((grind (arith, nat_tests), digits.to text t.0, is), grind (arith, nat_tests))

number_if : (a b c : Bool) (n m : ℕ) → a ≡ true → b ≡ true → c ≡ true → n ≡ m → cond (a && b && c) (Some n) None ≡ Some m
number_if a b c n m is_a is_b is_c is = rw (is_a, is_b, is_c) (ap (λ (k : ℕ). Some k) is)

is_below : (a b : ℕ) → a < b → nat_lt a b ≡ true
is_below a b h = grind (arith, nat_tests)

number_read : (text : List ℕ) (n : ℕ) → IsNumeral text n → n < 2 ^ 64 → number_in text ≡ Some n
number_read text n h fits =
    number_if (list_all is_ascii_digit text) (nat_lt 0 (length text)) (nat_lt (digits_value 10 text) (2 ^ 64)) (digits_value 10 text) n
    (digits.from text h.1) (is_below 0 (length text) h.0)
    (is_below (digits_value 10 text) (2 ^ 64) (subst (λ m. m < 2 ^ 64) (sym h.2) fits)) h.2

size_from : (o : Option ℕ) (n : ℕ) → option_and_then (λ size. cond (nat_eq size 0) None (Some size)) o ≡ Some n → (o ≡ Some n) × (0 < n)
size_from None n h = cc h
size_from (Some m) n h =
    let p = not_refused (nat_eq m 0) m n h in
    let other : nat_eq m 0 ≡ false = p.0 in
    let is : m ≡ n = p.1 in
    (ap (λ (k : ℕ). Some k) is, grind (arith, nat_tests))

above_zero : (n : ℕ) → 0 < n → nat_eq n 0 ≡ false
above_zero n h = grind (arith, nat_tests)

size_of : (o : Option ℕ) (n : ℕ) → o ≡ Some n → 0 < n → option_and_then (λ size. cond (nat_eq size 0) None (Some size)) o ≡ Some n
size_of o n is some = rw (is, above_zero n some) refl

size_spelled : (text : List ℕ) (n : ℕ) → size_in text ≡ Some n → IsNumeral text n × IsSize n
size_spelled text n h =
    let p = size_from (number_in text) n h in
    let s = number_spelled text n p.0 in
    (s.0, (p.1, s.1))

size_read : (text : List ℕ) (n : ℕ) → IsNumeral text n → IsSize n → size_in text ≡ Some n
size_read text n h fits = size_of (number_in text) n (number_read text n h fits.1) fits.0

entry_from : (o : Option ℕ) (n : ℕ) → option_and_then (λ m. cond (nat_lt m (2 ^ 32)) (Some m) None) o ≡ Some n → (o ≡ Some n) × (n < 2 ^ 32)
entry_from None n h = cc h
entry_from (Some m) n h =
    let p = passed (nat_lt m (2 ^ 32)) m n h in
    let below : nat_lt m (2 ^ 32) ≡ true = p.0 in
    let is : m ≡ n = p.1 in
    (ap (λ (k : ℕ). Some k) is, grind (arith, nat_tests))

entry_of : (o : Option ℕ) (n : ℕ) → o ≡ Some n → n < 2 ^ 32 → option_and_then (λ m. cond (nat_lt m (2 ^ 32)) (Some m) None) o ≡ Some n
entry_of o n is fits = rw (is, is_below n (2 ^ 32) fits) refl

entry_number_spelled : (text : List ℕ) (n : ℕ) → entry_number_in text ≡ Some n → IsNumeral text n × IsEntryNumber n
entry_number_spelled text n h =
    let p = entry_from (number_in text) n h in
    ((number_spelled text n p.0).0, p.1)

entry_number_read : (text : List ℕ) (n : ℕ) → IsNumeral text n → IsEntryNumber n → entry_number_in text ≡ Some n
entry_number_read text n h fits = entry_of (number_in text) n (number_read text n h (omega (arith, fits))) fits

-- `auto` is not a number
auto_is_none : (n : ℕ) → IsNumeral (codes "auto") n → ⊥
auto_is_none n h = omega (arith, h.1.0)

sector_from : (b : Bool) (s : Option ℕ) (n : ℕ) → b ≡ false → s ≡ Some n → cond b (Some None) (option_map (λ size. Some size) s) ≡ Some (Some n)
sector_from b s n other is = rw (other, is) refl

sector_size_spelled : (text : List ℕ) (size : Option ℕ) → sector_size_in text ≡ Some size → IsSectorSize text size × IfSome size IsSize
sector_size_spelled text size h =
    elim (chosen text (codes "auto") (Some None) (option_map (λ n. Some n) (size_in text)) (Some size) h) [
      | inl auto ↦ subst (λ o. IsSectorSize text o × IfSome o IsSize) (some_same None size auto.1) (auto.0, tt)
      | inr number ↦
          let p = map_parts (λ n. Some n) (size_in text) size number in
          subst (λ o. IsSectorSize text o × IfSome o IsSize) p.2 (size_spelled text p.0 p.1)
    ]

sector_size_read : (text : List ℕ) (size : Option ℕ) → IsSectorSize text size → IfSome size IsSize → sector_size_in text ≡ Some size
sector_size_read text None h fits = ap sector_size_in h
sector_size_read text (Some n) h fits =
    sector_from (bytes_eq text (codes "auto")) (size_in text) n
    (is_false (bytes_eq text (codes "auto")) (λ same. auto_is_none n (subst (λ t. IsNumeral t n) ((bytes_decides text (codes "auto")).0 same) h)))
    (size_read text n h fits)

-- ---- words for a choice

-- the text is the word of a value
spelled_by : {A : Type 0} (word : A → List ℕ) (text : List ℕ) (x a : A) → text ≡ word x → Some x ≡ Some a → text ≡ word a
spelled_by word text x a is h = is ∙ ap word (some_same x a h)

choice_spelled : (text : List ℕ) (choice : Choice) → choice_in text ≡ Some choice → text ≡ choice_word choice
choice_spelled text choice h =
    let by = spelled_by choice_word text in
    picked (λ c. text ≡ choice_word c) text ((codes "first", Some First) ∷ (codes "last", Some Last) ∷ (codes "best", Some Best) ∷ []) None choice
    (by First, (by Last, (by Best, tt))) (λ none. cc none) h

choice_read : (text : List ℕ) (choice : Choice) → text ≡ choice_word choice → choice_in text ≡ Some choice
choice_read text First h = ap choice_in h
choice_read text Last h = ap choice_in h
choice_read text Best h = ap choice_in h

kind_spelled : (text : List ℕ) (bootable : Bool) → kind_in text ≡ Some bootable → text ≡ kind_word bootable
kind_spelled text bootable h =
    let by = spelled_by kind_word text in
    picked (λ b. text ≡ kind_word b) text ((codes "plain", Some false) ∷ (codes "bootable", Some true) ∷ []) None bootable
    (by false, (by true, tt)) (λ none. cc none) h

kind_read : (text : List ℕ) (bootable : Bool) → text ≡ kind_word bootable → kind_in text ≡ Some bootable
kind_read text false h = ap kind_in h
kind_read text true h = ap kind_in h

-- ---- GUIDs

ok_same : (x y : List ℕ) → ◌≡◌ {A = Result (List ℕ) FromHexError} (Ok x) (Ok y) → x ≡ y
ok_same x y h = cc h

number_same : (x y : ℕ) → ◌≡◌ {A = Result ℕ FromHexError} (Ok x) (Ok y) → x ≡ y
number_same x y h = cc h

step_parts : {A B : Type 0} (r : Result A FromHexError) (f : A → Result B FromHexError) (y : B) → (r >>= f) ≡ Ok y → (x : A) × (r ≡ Ok x) × (f x ≡ Ok y)
step_parts (Ok x) f y h = (x, refl, h)
step_parts (Err e) f y h = cc h

digit_read : (c i : ℕ) (o : Option ℕ) (v : ℕ) → digit_or_error c i o ≡ Ok v → o ≡ Some v
digit_read c i (Some w) v h = ap (λ (k : ℕ). Some k) (number_same w v h)
digit_read c i None v h = cc h

digit_below_16 : (c v : ℕ) → hex_digit_value c ≡ Some v → v < 16
digit_below_16 c v h = grind (arith)

pairs_spelled : (i : ℕ) (text bytes : List ℕ) → decode_pairs i text ≡ Ok bytes → AreDigitPairs text bytes
unfolding decode_pairs
pairs_spelled i [] bytes h = subst (AreDigitPairs []) (ok_same [] bytes h) tt
pairs_spelled i (a ∷ []) bytes h = cc h
pairs_spelled i (a ∷ b ∷ text) bytes h =
    let pair = step_parts (pair_value a b i) _ bytes h in
    let high = step_parts (value_at a i) _ pair.0 pair.1 in
    let low = step_parts (value_at b (i + 1)) _ pair.0 high.2 in
    let rest = step_parts (decode_pairs (i + 2) text) _ bytes pair.2 in
    let is_high : hex_digit_value a ≡ Some high.0 = digit_read a i (hex_digit_value a) high.0 high.1 in
    let is_low : hex_digit_value b ≡ Some low.0 = digit_read b (i + 1) (hex_digit_value b) low.0 low.1 in
    let byte : high.0 * 16 + low.0 ≡ pair.0 = number_same (high.0 * 16 + low.0) pair.0 low.2 in
    let high_fits : high.0 < 16 = digit_below_16 a high.0 is_high in
    let low_fits : low.0 < 16 = digit_below_16 b low.0 is_low in
    let of_high : high.0 ≡ pair.0 / 16 = omega arith in
    let of_low : low.0 ≡ pair.0 % 16 = omega arith in
    subst (AreDigitPairs (a ∷ b ∷ text)) (ok_same (pair.0 ∷ rest.0) bytes rest.2)
    (is_high ∙ ap (λ (k : ℕ). Some k) of_high, is_low ∙ ap (λ (k : ℕ). Some k) of_low, pairs_spelled (i + 2) text rest.0 rest.1)

pairs_read : (i : ℕ) (text bytes : List ℕ) → AreDigitPairs text bytes → decode_pairs i text ≡ Ok bytes
unfolding decode_pairs
pairs_read i [] [] h = refl
pairs_read i (a ∷ b ∷ text) (byte ∷ bytes) h =
    let high : value_at a i ≡ Ok (byte / 16) = ap (digit_or_error a i) h.0 in
    let low : value_at b (i + 1) ≡ Ok (byte % 16) = ap (digit_or_error b (i + 1)) h.1 in
    let pair : pair_value a b i ≡ Ok (byte / 16 * 16 + byte % 16) = rw (high, low) refl in
    let whole : byte / 16 * 16 + byte % 16 ≡ byte = omega arith in
    decode_pairs-ok_pair i a b _ text pair ∙ ap (cons_byte (byte / 16 * 16 + byte % 16)) (pairs_read (i + 2) text bytes h.2)
    ∙ ap (λ (v : ℕ). Ok (v ∷ bytes)) whole
pairs_read i text bytes h = absurd h

ok_from_some : (r : Result (List ℕ) FromHexError) (guid : List ℕ) → result_ok r ≡ Some guid → r ≡ Ok guid
ok_from_some (Ok x) guid h = ap (λ (k : List ℕ). Ok k) (some_same x guid h)
ok_from_some (Err e) guid h = cc h

guid_spelled : (text guid : List ℕ) → guid_in text ≡ Some guid → IsDigits text guid × IsGuid guid
guid_spelled text guid h =
    let ok = ok_from_some (decode_sized text 16) guid h in
    let long : length text ≡ 32 = decode_sized-ok text 16 guid ok in
    let even : length text % 2 ≡ 0 = omega arith in
    let pairs : decode_pairs 0 text ≡ Ok guid = sym (decode_of-even text even) ∙ sym (decode_sized-twice text 16 long) ∙ ok in
    let sized = decode_pairs-ok 0 text guid pairs in
    ((long, pairs_spelled 0 text guid pairs), (omega (arith, sized.1), sized.2))

guid_read : (text guid : List ℕ) → IsDigits text guid → guid_in text ≡ Some guid
guid_read text guid h =
    let even : length text % 2 ≡ 0 = omega (arith, h.0) in
    ap result_ok (decode_sized-twice text 16 h.0 ∙ decode_of-even text even ∙ pairs_read 0 text guid h.1)

type_from : (o : Option (List ℕ)) (guid : List ℕ) → option_and_then (λ guid. cond (bytes_eq guid (replicate 16 0)) None (Some guid)) o ≡ Some guid
    → (o ≡ Some guid) × (guid ≢ replicate 16 0)
type_from None guid h = cc h
type_from (Some g) guid h =
    let p = not_refused (bytes_eq g (replicate 16 0)) g guid h in
    (ap (λ (k : List ℕ). Some k) p.1, λ zero. cc (p.0, (bytes_decides g (replicate 16 0)).1 (p.1 ∙ zero)))

type_of : (o : Option (List ℕ)) (guid : List ℕ) → o ≡ Some guid → guid ≢ replicate 16 0
    → option_and_then (λ guid. cond (bytes_eq guid (replicate 16 0)) None (Some guid)) o ≡ Some guid
type_of o guid is other =
    let not : bytes_eq guid (replicate 16 0) ≡ false = is_false (bytes_eq guid (replicate 16 0)) (λ same. other ((bytes_decides guid (replicate 16 0)).0 same)) in
    rw (is, not) refl

type_spelled : (text guid : List ℕ) → type_in text ≡ Some guid → IsDigits text guid × IsGuid guid × (guid ≢ replicate 16 0)
type_spelled text guid h =
    let p = type_from (guid_in text) guid h in
    let s = guid_spelled text guid p.0 in
    (s.0, s.1, p.1)

type_read : (text guid : List ℕ) → IsDigits text guid → guid ≢ replicate 16 0 → type_in text ≡ Some guid
type_read text guid h other = type_of (guid_in text) guid (guid_read text guid h) other

-- ---- changes

-- an addition, if each of its parts was parsed
addition_from : (number : Option ℕ) (type unique : Option (List ℕ)) (size : Option ℕ) (choice : Option Choice) (align : Option ℕ) (name : List ℕ) (a : Addition)
    → addition_of number type unique size choice align name ≡ Some a
    → (number ≡ Some a.number) × (type ≡ Some a.type_guid) × (unique ≡ Some a.unique_guid) × (size ≡ Some a.size) × (choice ≡ Some a.choice)
    × (align ≡ Some a.align) × (name ≡ a.name)
addition_from None type unique size choice align name a h = cc h
addition_from (Some n) None unique size choice align name a h = cc h
addition_from (Some n) (Some t) None size choice align name a h = cc h
addition_from (Some n) (Some t) (Some u) None choice align name a h = cc h
addition_from (Some n) (Some t) (Some u) (Some s) None align name a h = cc h
addition_from (Some n) (Some t) (Some u) (Some s) (Some c) None name a h = cc h
addition_from (Some n) (Some t) (Some u) (Some s) (Some c) (Some l) name a h =
    let is = some_same (record { number = n; type_guid = t; unique_guid = u; size = s; choice = c; align = l; name = name }) a h in (
      ap (λ (a : Addition). Some a.number) is,
      ap (λ (a : Addition). Some a.type_guid) is,
      ap (λ (a : Addition). Some a.unique_guid) is,
      ap (λ (a : Addition). Some a.size) is,
      ap (λ (a : Addition). Some a.choice) is,
      ap (λ (a : Addition). Some a.align) is,
      ap (λ (a : Addition). a.name) is,
    )

addition_to : (number : Option ℕ) (type unique : Option (List ℕ)) (size : Option ℕ) (choice : Option Choice) (align : Option ℕ) (name : List ℕ) (a : Addition)
    → number ≡ Some a.number → type ≡ Some a.type_guid → unique ≡ Some a.unique_guid → size ≡ Some a.size → choice ≡ Some a.choice → align ≡ Some a.align
    → name ≡ a.name → addition_of number type unique size choice align name ≡ Some a
addition_to number type unique size choice align name a is_number is_type is_unique is_size is_choice is_align is_name =
    rw (is_number, is_type, is_unique, is_size, is_choice, is_align, is_name) refl

addition_spelled : (words : List (List ℕ)) (a : Addition) → addition_in words ≡ Some a → IsSpelledAddition words a × IsAllowedAddition a
addition_spelled (number ∷ type ∷ unique ∷ size ∷ choice ∷ align ∷ name ∷ []) a h =
    let p = addition_from (entry_number_in number) (type_in type) (guid_in unique) (size_in size) (choice_in choice) (size_in align) name a h in
    let n = entry_number_spelled number a.number p.0 in
    let t = type_spelled type a.type_guid p.1 in
    let u = guid_spelled unique a.unique_guid p.2 in
    let s = size_spelled size a.size p.3 in
    let l = size_spelled align a.align p.5 in
    ((n.0, t.0, u.0, s.0, choice_spelled choice a.choice p.4, l.0, p.6), (n.1, t.1, t.2, u.1, s.1, l.1))
addition_spelled words a h = cc h

addition_read : (words : List (List ℕ)) (a : Addition) → IsSpelledAddition words a → IsAllowedAddition a → addition_in words ≡ Some a
addition_read (number ∷ type ∷ unique ∷ size ∷ choice ∷ align ∷ name ∷ []) a h fits =
    addition_to (entry_number_in number) (type_in type) (guid_in unique) (size_in size) (choice_in choice) (size_in align) name a
    (entry_number_read number a.number h.0 fits.0) (type_read type a.type_guid h.1 fits.2) (guid_read unique a.unique_guid h.2)
    (size_read size a.size h.3 fits.4) (choice_read choice a.choice h.4) (size_read align a.align h.5 fits.5) h.6
addition_read words a h fits = absurd h

-- a change that is spelled, and allowed
abbrev Means : List (List ℕ) → Change → Type 0
Means words change = IsSpelledChange words change × IsAllowedChange change

add_spelled : (name : List ℕ) (words : List (List ℕ)) (change : Change) → name ≡ codes "add" → option_map (λ a. Add a) (addition_in words) ≡ Some change
    → Means (name ∷ words) change
add_spelled name words change is h =
    let p = map_parts (λ a. Add a) (addition_in words) change h in
    let a = addition_spelled words p.0 p.1 in
    subst (Means (name ∷ words)) p.2 ((is, a.0), a.1)

remove_spelled : (name : List ℕ) (words : List (List ℕ)) (change : Change) → name ≡ codes "remove" → remove_in words ≡ Some change → Means (name ∷ words) change
remove_spelled name [] change is h = cc h
remove_spelled name (number ∷ []) change is h =
    let p = map_parts (λ n. Remove n) (entry_number_in number) change h in
    let n = entry_number_spelled number p.0 p.1 in
    subst (Means (name ∷ number ∷ [])) p.2 ((is, n.0), n.1)
remove_spelled name (number ∷ other ∷ words) change is h = cc h

-- a change that takes no words
without_words_spelled : (one : Change) (name : List ℕ) (words : List (List ℕ)) (change : Change) → Means (name ∷ []) one → without_words one words ≡ Some change → Means (name ∷ words) change
without_words_spelled one name [] change means h = subst (Means (name ∷ [])) (some_same one change h) means
without_words_spelled one name (other ∷ words) change means h = cc h

change_spelled : (name : List ℕ) (words : List (List ℕ)) (change : Change) → named_change_in name words ≡ Some change → Means (name ∷ words) change
change_spelled name words change h =
    picked (Means (name ∷ words)) name (
    (codes "add", option_map (λ a. Add a) (addition_in words)) ∷ (codes "remove", remove_in words)
    ∷ (codes "sort", without_words Sort words) ∷ (codes "grow", without_words Grow words) ∷ []
    ) None change (
      add_spelled name words,
      (
        remove_spelled name words,
        (λ change is. without_words_spelled Sort name words change (is, tt), (λ change is. without_words_spelled Grow name words change (is, tt), tt)),
      ),
    ) (λ none. cc none) h

-- ---- commands

-- the spelling of a change, for any number of words
changing_spells : (sector : List ℕ) (words : List (List ℕ)) (size : Option ℕ) (change : Change) → IsSectorSize sector size → IsSpelledChange words change
    → IsSpelled (sector ∷ words) (Changing size change)
changing_spells sector [] size change is h = (is, h)
changing_spells sector (name ∷ []) size change is h = (is, h)
changing_spells sector (name ∷ word ∷ []) size change is h = (is, h)
changing_spells sector (name ∷ word ∷ other ∷ words) size change is h = (is, h)

-- a command that is spelled, and allowed
abbrev IsMeant : List (List ℕ) → Command → Type 0
IsMeant words command = IsSpelled words command × IsAllowed command

-- a command with a sector size and one more word
two_words : {A B : Type 0} (make : A → B → Command) (first : Option A) (read : List ℕ → Option B) (of : List (List ℕ) → Option Command)
    (P : List (List ℕ) → Command → Type 0) → of [] ≡ None → ((word other : List ℕ) (words : List (List ℕ)) → of (word ∷ other ∷ words) ≡ None)
    → ((word : List ℕ) → of (word ∷ []) ≡ option_and_then (λ x. option_map (λ y. make x y) (read word)) first)
    → ((word : List ℕ) (x : A) (y : B) → first ≡ Some x → read word ≡ Some y → P (word ∷ []) (make x y))
    → (words : List (List ℕ)) (command : Command) → of words ≡ Some command → P words command
two_words make first read of P none more one given [] command h = cc (sym none ∙ h)
two_words make first read of P none more one given (word ∷ []) command h =
    let p = both_parts make first (read word) command (sym (one word) ∙ h) in
    subst (P (word ∷ [])) p.4 (given word p.0 p.1 p.2 p.3)
two_words make first read of P none more one given (word ∷ other ∷ words) command h = cc (sym (more word other words) ∙ h)

new_spelled : (sector name : List ℕ) (words : List (List ℕ)) (command : Command) → name ≡ codes "new" → new_in sector words ≡ Some command
    → IsMeant (sector ∷ name ∷ words) command
new_spelled sector name words command is =
    two_words (λ size guid. New size guid) (size_in sector) guid_in (new_in sector) (λ ws. IsMeant (sector ∷ name ∷ ws)) refl (λ word other ws. refl) (λ word. refl)
    (λ digits size guid is_size is_guid.
    let s = size_spelled sector size is_size in
    let g = guid_spelled digits guid is_guid in
    ((s.0, is, g.0), (s.1, g.1))) words command

mbr_spelled : (sector name : List ℕ) (words : List (List ℕ)) (command : Command) → name ≡ codes "mbr" → mbr_in sector words ≡ Some command
    → IsMeant (sector ∷ name ∷ words) command
mbr_spelled sector name words command is =
    two_words (λ size bootable. Mbr size bootable) (size_in sector) kind_in (mbr_in sector) (λ ws. IsMeant (sector ∷ name ∷ ws)) refl (λ word other ws. refl) (λ word. refl)
    (λ kind size bootable is_size is_kind. let s = size_spelled sector size is_size in ((s.0, is, kind_spelled kind bootable is_kind), s.1)) words command

check_spelled : (sector name : List ℕ) (words : List (List ℕ)) (command : Command) → name ≡ codes "check" → check_in sector words ≡ Some command
    → IsMeant (sector ∷ name ∷ words) command
check_spelled sector name [] command is h =
    let p = map_parts (λ size. Check size) (size_in sector) command h in
    let s = size_spelled sector p.0 p.1 in
    subst (IsMeant (sector ∷ name ∷ [])) p.2 ((s.0, is), s.1)
check_spelled sector name (other ∷ words) command is h = cc h

show_spelled : (sector name : List ℕ) (words : List (List ℕ)) (command : Command) → name ≡ codes "show" → show_in sector words ≡ Some command
    → IsMeant (sector ∷ name ∷ words) command
show_spelled sector name [] command is h =
    let p = map_parts (λ size. Show size) (sector_size_in sector) command h in
    let s = sector_size_spelled sector p.0 p.1 in
    subst (IsMeant (sector ∷ name ∷ [])) p.2 ((s.0, is), s.1)
show_spelled sector name (other ∷ words) command is h = cc h

free_spelled : (sector name : List ℕ) (words : List (List ℕ)) (command : Command) → name ≡ codes "free" → free_in sector words ≡ Some command
    → IsMeant (sector ∷ name ∷ words) command
free_spelled sector name words command is =
    two_words (λ size align. Free size align) (sector_size_in sector) size_in (free_in sector) (λ ws. IsMeant (sector ∷ name ∷ ws)) refl (λ word other ws. refl) (λ word. refl)
    (λ number size align is_size is_align.
    let s = sector_size_spelled sector size is_size in
    let n = size_spelled number align is_align in
    ((s.0, is, n.0), (s.1, n.1))) words command

changing_spelled : (sector name : List ℕ) (words : List (List ℕ)) (command : Command) → change_in sector name words ≡ Some command
    → IsMeant (sector ∷ name ∷ words) command
changing_spelled sector name words command h =
    let p = both_parts (λ size change. Changing size change) (sector_size_in sector) (named_change_in name words) command h in
    let s = sector_size_spelled sector p.0 p.2 in
    let m = change_spelled name words p.1 p.3 in
    subst (IsMeant (sector ∷ name ∷ words)) p.4 (changing_spells sector (name ∷ words) p.0 p.1 s.0 m.0, (s.1, m.1))

named_spelled : (sector name : List ℕ) (words : List (List ℕ)) (command : Command) → named_command_in sector name words ≡ Some command
    → IsMeant (sector ∷ name ∷ words) command
named_spelled sector name words command h =
    picked (IsMeant (sector ∷ name ∷ words)) name (
    (codes "new", new_in sector words) ∷ (codes "mbr", mbr_in sector words) ∷ (codes "check", check_in sector words)
    ∷ (codes "show", show_in sector words) ∷ (codes "free", free_in sector words) ∷ []
    ) (change_in sector name words) command (
      new_spelled sector name words,
      (mbr_spelled sector name words, (check_spelled sector name words, (show_spelled sector name words, (free_spelled sector name words, tt)))),
    ) (changing_spelled sector name words command) h

-- the command that is returned is spelled by the words, and allowed
pub command_spelled : (words : List (List ℕ)) (command : Command) → command_in words ≡ Some command → IsMeant words command
command_spelled [] command h = cc h
command_spelled (sector ∷ []) command h = cc h
command_spelled (sector ∷ name ∷ words) command h = named_spelled sector name words command h

-- a command with this word for its name
named : (sector name word : List ℕ) (words : List (List ℕ)) (command : Command) → name ≡ word → named_command_in sector word words ≡ Some command
    → named_command_in sector name words ≡ Some command
named sector name word words command is h = ap (λ name. named_command_in sector name words) is ∙ h

changing_read : (sector : List ℕ) (words : List (List ℕ)) (size : Option ℕ) (change : Change) → sector_size_in sector ≡ Some size
    → IsSpelledChange words change → IsAllowedChange change → command_in (sector ∷ words) ≡ Some (Changing size change)
changing_read sector (name ∷ words) size (Add a) is h fits =
    named sector name (codes "add") words (Changing size (Add a)) h.0
    (both_of (λ size change. Changing size change) (sector_size_in sector) (option_map (λ a. Add a) (addition_in words)) size (Add a) is
    (map_of (λ a. Add a) (addition_in words) a (addition_read words a h.1 fits)))
changing_read sector (name ∷ number ∷ []) size (Remove n) is h fits =
    named sector name (codes "remove") (number ∷ []) (Changing size (Remove n)) h.0
    (both_of (λ size change. Changing size change) (sector_size_in sector) (option_map (λ n. Remove n) (entry_number_in number)) size (Remove n) is
    (map_of (λ n. Remove n) (entry_number_in number) n (entry_number_read number n h.1 fits)))
changing_read sector (name ∷ []) size Sort is h fits =
    named sector name (codes "sort") [] (Changing size Sort) h
    (both_of (λ size change. Changing size change) (sector_size_in sector) (Some Sort) size Sort is refl)
changing_read sector (name ∷ []) size Grow is h fits =
    named sector name (codes "grow") [] (Changing size Grow) h
    (both_of (λ size change. Changing size change) (sector_size_in sector) (Some Grow) size Grow is refl)
changing_read sector words size change is h fits = absurd h

-- a command that is spelled, and allowed, is returned
pub command_read : (words : List (List ℕ)) (command : Command) → IsSpelled words command → IsAllowed command → command_in words ≡ Some command
command_read (sector ∷ name ∷ digits ∷ []) (New size guid) h fits =
    named sector name (codes "new") (digits ∷ []) (New size guid) h.1
    (both_of (λ size guid. New size guid) (size_in sector) (guid_in digits) size guid (size_read sector size h.0 fits.0) (guid_read digits guid h.2))
command_read (sector ∷ name ∷ kind ∷ []) (Mbr size bootable) h fits =
    named sector name (codes "mbr") (kind ∷ []) (Mbr size bootable) h.1
    (both_of (λ size bootable. Mbr size bootable) (size_in sector) (kind_in kind) size bootable (size_read sector size h.0 fits) (kind_read kind bootable h.2))
command_read (sector ∷ name ∷ []) (Check size) h fits =
    named sector name (codes "check") [] (Check size) h.1 (map_of (λ size. Check size) (size_in sector) size (size_read sector size h.0 fits))
command_read (sector ∷ name ∷ []) (Show size) h fits =
    named sector name (codes "show") [] (Show size) h.1 (map_of (λ size. Show size) (sector_size_in sector) size (sector_size_read sector size h.0 fits))
command_read (sector ∷ name ∷ number ∷ []) (Free size align) h fits =
    named sector name (codes "free") (number ∷ []) (Free size align) h.1
    (both_of (λ size align. Free size align) (sector_size_in sector) (size_in number) size align (sector_size_read sector size h.0 fits.0) (size_read number align h.2 fits.1))
command_read (sector ∷ words) (Changing size change) h fits = changing_read sector words size change (sector_size_read sector size h.0 fits.0) h.1 fits.1
command_read words command h fits = absurd h

-- words spell at most one such command
pub spelled_once : (words : List (List ℕ)) (a b : Command) → IsSpelled words a → IsAllowed a → IsSpelled words b → IsAllowed b → a ≡ b
spelled_once words a b is_a fits_a is_b fits_b = some_same a b (sym (command_read words a is_a fits_a) ∙ command_read words b is_b fits_b)

-- ---- the usual words

decimal_spells : (n : ℕ) → n < 2 ^ 64 → IsNumeral (decimal n) n
decimal_spells n fits = let d = decimal_is_IsNumeral n fits in (d.0.0, d.0.1, d.1)

lower_spells : (guid : List ℕ) → IsGuid guid → IsDigits (encode_lower guid) guid
lower_spells guid fits =
    let twice = length-encode_with lower_digits guid in
    (omega (arith, twice, fits.0), pairs_spelled 0 (encode_lower guid) guid (decode_pairs-encode_with lower_digits IsDigits-lower_digits 0 guid fits.1))

sector_word_spells : (size : Option ℕ) → IfSome size IsSize → IsSectorSize (sector_word size) size
sector_word_spells None fits = refl
sector_word_spells (Some size) fits = decimal_spells size fits.1

usual_change : (change : Change) → IsAllowedChange change → IsSpelledChange (spell_change change) change
usual_change (Add a) fits = (
  refl,
  (
    decimal_spells a.number (omega (arith, fits.0)),
    lower_spells a.type_guid fits.1,
    lower_spells a.unique_guid fits.3,
    decimal_spells a.size fits.4.1,
    refl,
    decimal_spells a.align fits.5.1,
    refl,
  ),
)
usual_change (Remove number) fits = (refl, decimal_spells number (omega (arith, fits)))
usual_change Sort fits = refl
usual_change Grow fits = refl

-- the usual words of a command spell it
pub usual_words : (command : Command) → IsAllowed command → IsSpelled (spell command) command
usual_words (New size guid) fits = (decimal_spells size fits.0.1, refl, lower_spells guid fits.1)
usual_words (Mbr size bootable) fits = (decimal_spells size fits.1, refl, refl)
usual_words (Check size) fits = (decimal_spells size fits.1, refl)
usual_words (Show size) fits = (sector_word_spells size fits, refl)
usual_words (Free size align) fits = (sector_word_spells size fits.0, refl, decimal_spells align fits.1.1)
usual_words (Changing size change) fits =
    changing_spells (sector_word size) (spell_change change) size change (sector_word_spells size fits.0) (usual_change change fits.1)

-- ---- the result of `parse`

pub answers_spelled : (result : Option Command) (words : List (List ℕ)) → result ≡ command_in words → IfSome result (IsMeant words)
answers_spelled None words is = tt
answers_spelled (Some command) words is = command_spelled words command (sym is)

pub answers_only : (result : Option Command) (words : List (List ℕ)) → result ≡ command_in words → (command : Command) → IsMeant words command → result ≡ Some command
answers_only result words is command meant = is ∙ command_read words command meant.0 meant.1

pub answers_usual : (result : Option Command) (words : List (List ℕ)) → result ≡ command_in words → (command : Command) → IsAllowed command
    → words ≡ spell command → result ≡ Some command
answers_usual result words is command fits same = is ∙ ap command_in same ∙ command_read (spell command) command (usual_words command fits) fits

-- a command that does not write only reads
pub only_reads : {A : Type 0} (words : List (String A)) (command : Command) → AskFor words command → ¬ AskToWrite words → writes command ≡ false
only_reads words command asked never = is_false (writes command) (λ does. never (command, asked, does))
