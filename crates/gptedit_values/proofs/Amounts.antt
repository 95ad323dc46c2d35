-- A text is one amount at most.
use Rattle.std.proofs.Common.{◌≡◌, ◌*◌, ◌^◌, ◌<◌, ℕ, List, [], ◌∷◌, ◌++◌, Contains, subst, sym, ap, ◌∙◌, arith, refl, codes}
use Rattle.std.specs.Prelude.{◌≢◌, Option, Some, None, Result, Ok, Err, if◌then◌else◌}
use Rattle.std.specs.Result.{OkIff}
use Rattle.std.specs.Str.{bytes_eq}
use Rattle.std.specs.Str.Parse.{AllDigits, IsNumeral, digits_value}
use Rattle.std.specs.Char.{digit_value}
use Rattle.gptedit_core.specs.declared.amount.Amount.{Amount}
use Rattle.gptedit_core.specs.declared.amount.Amount.TheVariants.{Bytes, Sectors}
use Rattle.gptedit_core.specs.declared.asked.Size.{Size}
use Rattle.gptedit_core.specs.declared.asked.Size.TheVariants.{Exactly, Rest}
use Rattle.gptedit_values.specs.Words.{FitsAmount, FitsSize, HasUnit, SaysAmount, SaysSize, units}
use Rattle.gptedit_values.specs.declared.wrong.Wrong.{Wrong}
use Rattle.gptedit_values.proofs.Tables.{each_of}

-- ---- digits, and the text after them

abbrev pub Other : List ℕ → Type 0
Other [] = ⊥
Other (c ∷ cs) = ¬ (digit_value c < 10)

abbrev first : List ℕ → ℕ
first [] = 0
first (c ∷ cs) = c

abbrev rest : List ℕ → List ℕ
rest [] = []
rest (c ∷ cs) = cs

pub same_digits : (n a m b : List ℕ) → AllDigits 10 n → AllDigits 10 m → Other a → Other b → n ++ a ≡ m ++ b → (n ≡ m) × (a ≡ b)
same_digits [] a [] b dn dm oa ob e = (refl, e)
same_digits [] [] (d ∷ m) b dn dm oa ob e = absurd oa
same_digits [] (c ∷ a) (d ∷ m) b dn dm oa ob e = absurd (oa (subst (λ x. digit_value x < 10) (sym (ap first e)) dm.0))
same_digits (c ∷ n) a [] [] dn dm oa ob e = absurd ob
same_digits (c ∷ n) a [] (d ∷ b) dn dm oa ob e = absurd (ob (subst (λ x. digit_value x < 10) (ap first e) dn.0))
same_digits (c ∷ n) a (d ∷ m) b dn dm oa ob e =
    let more = same_digits n a m b dn.1 dm.1 oa ob (ap rest e) in
    (subst (λ x. c ∷ n ≡ x ∷ m) (ap first e) (ap (λ l. c ∷ l) more.0), more.1)

-- ---- units

abbrev bytes_named : List ℕ → Option ℕ
bytes_named name =
    if bytes_eq name (codes "TiB") then Some (2 ^ 40)
    else (if bytes_eq name (codes "GiB") then Some (2 ^ 30)
    else (if bytes_eq name (codes "MiB") then Some (2 ^ 20)
    else (if bytes_eq name (codes "KiB") then Some (2 ^ 10)
    else (if bytes_eq name (codes "B") then Some 1 else None))))

abbrev Named : List ℕ × ℕ → Type 0
Named row = Other row.0 × (bytes_named row.0 ≡ Some row.1) × (0 < row.1)

named : (name : List ℕ) (unit : ℕ) → Contains units (name, unit) → Named (name, unit)
named name unit has = each_of Named units
    (((λ h. omega (arith, h)), refl, omega arith), (((λ h. omega (arith, h)), refl, omega arith), (((λ h. omega (arith, h)), refl, omega arith), (((λ h. omega (arith, h)), refl, omega arith), (((λ h. omega (arith, h)), refl, omega arith), tt)))))
    (name, unit) has

abbrev some_of : ℕ → Option ℕ → ℕ
some_of d None = d
some_of d (Some n) = n

abbrev IsThere : Option ℕ → Type 0
IsThere None = ⊥
IsThere (Some n) = Unit {0}

sectors_or_bytes : (text n m : List ℕ) (unit : ℕ) → IsNumeral 10 n → IsNumeral 10 m → text ≡ n ++ codes "s" → HasUnit text m unit → ⊥
sectors_or_bytes text n m unit dn dm is (name, has, is') =
    let here = named name unit has in
    let same = same_digits n (codes "s") m name dn.1 dm.1 (λ h. omega (arith, h)) here.0 (sym is ∙ is') in
    subst IsThere (sym (ap bytes_named same.1 ∙ here.1)) tt

-- ---- amounts

pub one_amount : (text : List ℕ) (a b : Amount) → SaysAmount text a → SaysAmount text b → a ≡ b
one_amount text (Sectors x) (Sectors y) (n, is, dn, v) (m, is', dm, v') =
    let same = same_digits n (codes "s") m (codes "s") dn.1 dm.1 (λ h. omega (arith, h)) (λ h. omega (arith, h)) (sym is ∙ is') in
    ap Sectors (sym v ∙ ap (digits_value 10) same.0 ∙ v')
one_amount text (Sectors x) (Bytes y) (n, is, dn, v) (m, unit, has, dm, v') = absurd (sectors_or_bytes text n m unit dn dm is has)
one_amount text (Bytes x) (Sectors y) (m, unit, has, dm, v') (n, is, dn, v) = absurd (sectors_or_bytes text n m unit dn dm is has)
one_amount text (Bytes x) (Bytes y) (n, u, (name, has, is), dn, v) (m, w, (name', has', is'), dm, v') =
    let a = named name u has in
    let b = named name' w has' in
    let same = same_digits n name m name' dn.1 dm.1 a.0 b.0 (sym is ∙ is') in
    let unit : u ≡ w = ap (some_of 0) (sym a.1 ∙ ap bytes_named same.1 ∙ b.1) in
    ap Bytes (sym v ∙ ap (λ l. digits_value 10 l * u) same.0 ∙ ap (λ k. digits_value 10 m * k) unit ∙ v')

pub reads_it : (text : List ℕ) (r : Result Amount Wrong) (a : Amount) → SaysAmount text a → OkIff r (FitsAmount a) a
    → (amount : Amount) → SaysAmount text amount → FitsAmount amount → r ≡ Ok amount
reads_it text (Ok x) a says read amount says' fits = ap Ok (read.1 ∙ one_amount text a amount says says')
reads_it text (Err e) a says read amount says' fits = absurd (read (subst FitsAmount (sym (one_amount text a amount says says')) fits))

pub reads_none : (text : List ℕ) (r : Result Amount Wrong) → ((number : List ℕ) → IsNumeral 10 number → text ≢ number ++ codes "s")
    → ((number : List ℕ) (unit : ℕ) → IsNumeral 10 number → ¬ (HasUnit text number unit))
    → (amount : Amount) → SaysAmount text amount → FitsAmount amount → r ≡ Ok amount
reads_none text r sectors bytes (Sectors n) (number, is, numeral, v) fits = absurd (sectors number numeral is)
reads_none text r sectors bytes (Bytes n) (number, unit, has, numeral, v) fits = absurd (bytes number unit numeral has)

-- ---- sizes

starts_otherwise : (number unit : List ℕ) → IsNumeral 10 number → codes "rest" ≡ number ++ unit → ⊥
starts_otherwise [] unit numeral is = omega (arith, numeral.0)
starts_otherwise (c ∷ number) unit numeral is =
    let low = subst (λ x. digit_value x < 10) (sym (ap first is)) numeral.1.0 in omega (arith, low)

rest_is_none : (amount : Amount) → SaysAmount (codes "rest") amount → ⊥
rest_is_none (Sectors n) (number, is, numeral, v) = starts_otherwise number (codes "s") numeral is
rest_is_none (Bytes n) (number, unit, (name, has, is), numeral, v) = starts_otherwise number name numeral is

pub reads_rest : (text : List ℕ) → text ≡ codes "rest" → (size : Size) → SaysSize text size → FitsSize size
    → ◌≡◌ {A = Result Size Wrong} (Ok Rest) (Ok size)
reads_rest text is (Exactly amount) says fits = absurd (rest_is_none amount (subst (λ t. SaysAmount t amount) is says))
reads_rest text is Rest says fits = refl
