-- A text is one number of a script at most, and has one unit at most.
use Rattle.std.proofs.Common.{◌≡◌, ◌==◌, ◌*◌, ◌^◌, ◌<◌, ◌≤◌, ℕ, List, ◌∷◌, ◌++◌, Contains, drop, length, reverse, subst, sym, ap, ◌∙◌, arith, rules, inl, inr, codes}
use Rattle.std.proofs.lemmas.List.{reverse-append, reverse-reverse}
use Rattle.std.proofs.Math.Nat.{mul-le-mul}
use Rattle.std.specs.Prelude.{if◌then◌else◌, slice_index}
use Rattle.std.specs.Str.Parse.{AllDigits, digits_value}
use Rattle.gptedit_core.specs.declared.amount.Amount.TheVariants.{Bytes, Sectors}
use Rattle.gptedit_values.specs.Scripts.{HasDigits, HasScriptUnit, IsDecimal, SaysNoExtent, SaysNoScriptNumber, SaysScriptNumber, script_units}
use Rattle.gptedit_values.proofs.Tables.{each_of}

-- ---- numbers

hex_or_octal : (text : List ℕ) (n m : ℕ) → HasDigits 16 (codes "0x") text n → HasDigits 8 (codes "0") text m → ⊥
hex_or_octal text n m (ds, is, numeral, v) (ds', is', numeral', v') =
    let digits : AllDigits 8 (120 ∷ ds) = subst (AllDigits 8) (ap (drop 1) (sym is' ∙ is)) numeral'.1 in
    let low = digits.0 in omega (arith, low)

hex_or_decimal : (text : List ℕ) (n m : ℕ) → HasDigits 16 (codes "0x") text n → IsDecimal text m → ⊥
hex_or_decimal text n m (ds, is, numeral, v) (numeral', start, v') =
    let digits : AllDigits 10 (48 ∷ 120 ∷ ds) = subst (AllDigits 10) is numeral'.1 in
    let low = digits.1.0 in omega (arith, low)

octal_or_decimal : (text : List ℕ) (n m : ℕ) → HasDigits 8 (codes "0") text n → IsDecimal text m → ⊥
octal_or_decimal text n m (ds, is, numeral, v) (numeral', start, v') = elim start [
  | inl zero ↦ let none = ap length (sym zero ∙ is) in omega (arith, none, numeral.0)
  | inr other ↦ other (ap (λ t. slice_index t 0) is)
]

one_number : (text : List ℕ) (n m : ℕ) → SaysScriptNumber text n → SaysScriptNumber text m → n ≡ m
one_number text n m (inl (ds, is, numeral, v)) (inl (ds', is', numeral', v')) = sym v ∙ ap (λ t. digits_value 16 (drop 2 t)) (sym is ∙ is') ∙ v'
one_number text n m (inl a) (inr (inl b)) = absurd (hex_or_octal text n m a b)
one_number text n m (inl a) (inr (inr b)) = absurd (hex_or_decimal text n m a b)
one_number text n m (inr (inl a)) (inl b) = absurd (hex_or_octal text m n b a)
one_number text n m (inr (inl (ds, is, numeral, v))) (inr (inl (ds', is', numeral', v'))) = sym v ∙ ap (λ t. digits_value 8 (drop 1 t)) (sym is ∙ is') ∙ v'
one_number text n m (inr (inl a)) (inr (inr b)) = absurd (octal_or_decimal text n m a b)
one_number text n m (inr (inr a)) (inl b) = absurd (hex_or_decimal text m n b a)
one_number text n m (inr (inr a)) (inr (inl b)) = absurd (octal_or_decimal text m n b a)
one_number text n m (inr (inr a)) (inr (inr b)) = sym a.2 ∙ b.2

-- ---- units

-- The unit of a letter, in bytes.
abbrev bytes_of : ℕ → ℕ
bytes_of letter =
    if letter == 75 then 2 ^ 10 else (if letter == 77 then 2 ^ 20 else (if letter == 71 then 2 ^ 30
    else (if letter == 84 then 2 ^ 40 else (if letter == 80 then 2 ^ 50 else 2 ^ 60))))

-- What is before the unit at the end of a text, and that unit. The text and the part before the unit are backwards.
abbrev parts_of : List ℕ → List ℕ × ℕ
parts_of back = if slice_index back 0 == 66 then (drop 3 back, bytes_of (slice_index back 2)) else (drop 1 back, bytes_of (slice_index back 0))

-- A text that ends with this name has this unit, which is not 0.
abbrev Named : List ℕ × ℕ → Type 0
Named row = ((back : List ℕ) → parts_of (reverse row.0 ++ back) ≡ (back, row.1)) × (0 < row.1)

named : (name : List ℕ) (unit : ℕ) → Contains script_units (name, unit) → Named (name, unit)
named name unit has = each_of Named script_units (search rules) (name, unit) has

unit_is_some : (text number : List ℕ) (unit : ℕ) → HasScriptUnit text number unit → 0 < unit
unit_is_some text number unit (name, has, is) = (named name unit has).1

one_unit : (text n m : List ℕ) (u w : ℕ) → HasScriptUnit text n u → HasScriptUnit text m w → (n ≡ m) × (u ≡ w)
one_unit text n m u w (name, has, is) (name', has', is') =
    let same = sym (reverse-append n name) ∙ ap reverse (sym is ∙ is') ∙ reverse-append m name' in
    let parts = sym ((named name u has).0 (reverse n)) ∙ ap parts_of same ∙ (named name' w has').0 (reverse m) in
    (sym (reverse-reverse n) ∙ ap (λ p. reverse p.0) parts ∙ reverse-reverse m, ap (λ p. p.1) parts)

-- ---- texts that are no extents

pub no_unit : (text : List ℕ) → SaysNoScriptNumber text → ((number : List ℕ) (unit : ℕ) → ¬ (HasScriptUnit text number unit)) → SaysNoExtent text
no_unit text none unknown (Sectors n) says fits = omega (arith, none n says)
no_unit text none unknown (Bytes n) (none', (number, unit, count, has, says, is)) fits = unknown number unit has

pub no_count : (text number : List ℕ) (unit : ℕ) → SaysNoScriptNumber text → HasScriptUnit text number unit → SaysNoScriptNumber number → SaysNoExtent text
no_count text number unit none has large (Sectors n) says fits = omega (arith, none n says)
no_count text number unit none has large (Bytes n) (none', (number', unit', count, has', says, is)) fits =
    let same = (one_unit text number' number unit' unit has' has).0 in
    let some = unit_is_some text number' unit' has' in
    let over : 2 ^ 64 ≤ count = large count (subst (λ t. SaysScriptNumber t count) same says) in
    omega (arith, mul-le-mul over some)

pub too_large : (text number : List ℕ) (unit count : ℕ) → SaysNoScriptNumber text → HasScriptUnit text number unit → SaysScriptNumber number count
    → 2 ^ 64 ≤ count * unit → SaysNoExtent text
too_large text number unit count none has said over (Sectors n) says fits = omega (arith, none n says)
too_large text number unit count none has said over (Bytes n) (none', (number', unit', count', has', says, is)) fits =
    let same = one_unit text number' number unit' unit has' has in
    let times : count' ≡ count = one_number number count' count (subst (λ t. SaysScriptNumber t count') same.0 says) said in
    let total : count' * unit' ≡ count * unit = ap (λ k. k * unit') times ∙ ap (λ k. count * k) same.1 in
    omega (arith, total)
