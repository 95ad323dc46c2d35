-- A text is one measure at most.
use Rattle.std.proofs.Common.{◌≡◌, ◌==◌, ◌+◌, ◌-◌, ◌*◌, ◌/◌, ◌^◌, ◌<◌, ◌≤◌, ℕ, zero, suc, List, [], ◌∷◌, ◌++◌, Bor, Contains, get_or, length, subst, sym, ap, ◌∙◌, arith, refl, codes, inl, inr}
use Rattle.std.proofs.Math.Nat.{mul_right_comm, mul-add-div_right, le-mul_of_pos_right, mul-lt-mul_of_pos_right, one-le-pow, add-mul}
use Rattle.std.proofs.lemmas.Nat.{mul-le, pow-add}
use Rattle.std.proofs.lemmas.Int.Digits.{digits_value-lt}
use Rattle.std.specs.Prelude.{◌≢◌, Option, Some, None, Result, Ok, Err, IfOk, MatchOption, if◌then◌else◌}
use Rattle.std.specs.Result.{OkIff}
use Rattle.std.proofs.lemmas.Str.Pattern.{IsSplitOnceResult, split_after}
use Rattle.std.specs.Str.{bytes_eq}
use Rattle.std.specs.Str.Parse.{AllDigits, IsNumeral, digits_value}
use Rattle.std.specs.Char.{digit_value}
use Rattle.gptedit_core.specs.declared.amount.Amount.TheVariants.{Bytes, Sectors}
use Rattle.gptedit_core.specs.declared.measure.Measure.{Measure}
use Rattle.gptedit_core.specs.declared.measure.Measure.TheVariants.{About, Exactly, Share}
use Rattle.gptedit_core.specs.declared.measure.Extent.TheVariants.{Size, Rest, End, More, Less}
use Rattle.gptedit_core.specs.declared.measure.Position.TheVariants.{FromStart, FromEnd}
use Rattle.gptedit_values.specs.Measures.{binary_units, decimal_units, FitsMeasure, SaysCount, SaysMeasure, SaysMillionths, SaysNoLength, SaysNoNewLength, SaysNoPosition, SaysPart}
use Rattle.gptedit_values.specs.declared.wrong.Wrong.{Wrong}
use Rattle.gptedit_values.proofs.Amounts.{same_digits, Other}
use Rattle.gptedit_values.proofs.Tables.{each_of}

-- ---- words after a number

-- What a word means: sectors, powers of two, powers of ten or percent, and the unit.
abbrev meaning : List ℕ → Option (ℕ × ℕ)
meaning name =
    if bytes_eq name (codes "s") then Some (0, 1)
    else (if bytes_eq name (codes "%") then Some (3, 10 ^ 6)
    else (if bytes_eq name (codes "TiB") then Some (1, 2 ^ 40)
    else (if bytes_eq name (codes "GiB") then Some (1, 2 ^ 30)
    else (if bytes_eq name (codes "MiB") then Some (1, 2 ^ 20)
    else (if bytes_eq name (codes "KiB") then Some (1, 2 ^ 10)
    else (if bytes_eq name (codes "T") then Some (1, 2 ^ 40)
    else (if bytes_eq name (codes "G") then Some (1, 2 ^ 30)
    else (if bytes_eq name (codes "M") then Some (1, 2 ^ 20)
    else (if bytes_eq name (codes "K") then Some (1, 2 ^ 10)
    else (if bytes_eq name (codes "B") then Some (1, 1)
    else (if bytes_eq name (codes "TB") then Some (2, 10 ^ 12)
    else (if bytes_eq name (codes "GB") then Some (2, 10 ^ 9)
    else (if bytes_eq name (codes "MB") then Some (2, 10 ^ 6)
    else (if bytes_eq name (codes "KB") then Some (2, 10 ^ 3) else None))))))))))))))

abbrev NoPoint : List ℕ → Type 0
NoPoint [] = ⊥
NoPoint (c ∷ cs) = c ≢ 46

pub record Named (kind unit : ℕ) (name : List ℕ) : Type 0 where
  pub other : Other name
  pub pointless : NoPoint name
  pub means : meaning name ≡ Some (kind, unit)

-- The same for a row of a table, with the bounds of its unit.
abbrev IsRow : ℕ → List ℕ × ℕ → Type 0
IsRow kind row = Named kind row.1 row.0 × (0 < row.1) × (row.1 ≤ 2 ^ 40)

abbrev is_named : (kind unit : ℕ) (name : List ℕ) → Other name → NoPoint name → meaning name ≡ Some (kind, unit) → Named kind unit name
is_named kind unit name o p m = record { other = o; pointless = p; means = m }

pub binary_row : (name : List ℕ) (unit : ℕ) → Contains binary_units (name, unit) → IsRow 1 (name, unit)
binary_row name unit has = each_of (IsRow 1) binary_units (
  (is_named _ _ _ (λ h. omega (arith, h)) (λ h. omega (arith, h)) refl, omega arith, omega arith),
  (
    (is_named _ _ _ (λ h. omega (arith, h)) (λ h. omega (arith, h)) refl, omega arith, omega arith),
    (
      (is_named _ _ _ (λ h. omega (arith, h)) (λ h. omega (arith, h)) refl, omega arith, omega arith),
      (
        (is_named _ _ _ (λ h. omega (arith, h)) (λ h. omega (arith, h)) refl, omega arith, omega arith),
        (
          (is_named _ _ _ (λ h. omega (arith, h)) (λ h. omega (arith, h)) refl, omega arith, omega arith),
          (
            (is_named _ _ _ (λ h. omega (arith, h)) (λ h. omega (arith, h)) refl, omega arith, omega arith),
            (
              (is_named _ _ _ (λ h. omega (arith, h)) (λ h. omega (arith, h)) refl, omega arith, omega arith),
              (
                (is_named _ _ _ (λ h. omega (arith, h)) (λ h. omega (arith, h)) refl, omega arith, omega arith),
                ((is_named _ _ _ (λ h. omega (arith, h)) (λ h. omega (arith, h)) refl, omega arith, omega arith), tt),
              ),
            ),
          ),
        ),
      ),
    ),
  ),
)
    (name, unit) has

pub decimal_row : (name : List ℕ) (unit : ℕ) → Contains decimal_units (name, unit) → IsRow 2 (name, unit)
decimal_row name unit has = each_of (IsRow 2) decimal_units (
  (is_named _ _ _ (λ h. omega (arith, h)) (λ h. omega (arith, h)) refl, omega arith, omega arith),
  (
    (is_named _ _ _ (λ h. omega (arith, h)) (λ h. omega (arith, h)) refl, omega arith, omega arith),
    (
      (is_named _ _ _ (λ h. omega (arith, h)) (λ h. omega (arith, h)) refl, omega arith, omega arith),
      ((is_named _ _ _ (λ h. omega (arith, h)) (λ h. omega (arith, h)) refl, omega arith, omega arith), tt),
    ),
  ),
)
    (name, unit) has

named_s : Named 0 1 (codes "s")
named_s = is_named _ _ _ (λ h. omega (arith, h)) (λ h. omega (arith, h)) refl

named_percent : Named 3 (10 ^ 6) (codes "%")
named_percent = is_named _ _ _ (λ h. omega (arith, h)) (λ h. omega (arith, h)) refl

-- ---- a point after digits

no_point : (ds : List ℕ) → AllDigits 10 ds → (i : ℕ) → i < length ds → get_or ds i 0 ≢ 46
no_point [] digits i within = absurd (omega (arith, within))
no_point (d ∷ ds) digits zero within = λ is. let low = subst (λ x. digit_value x < 10) is digits.0 in omega (arith, low)
no_point (d ∷ ds) digits (suc i) within = no_point ds digits.1 i (omega (arith, within))

-- A text is split at the point after its digits.
pub split_digits : (text : List ℕ) (r : Option (Bor (List ℕ) × Bor (List ℕ))) → IsSplitOnceResult 46 text r
    → (front back : List ℕ) → IsNumeral 10 front → text ≡ front ++ (codes "." ++ back) → MatchOption r ⊥ (λ parts. IsNumeral 10 parts.0.now)
split_digits text None cases front back numeral is = split_after 46 text front back None cases (omega arith) is (no_point front numeral.1)
split_digits text (Some parts) cases front back numeral is =
    subst (IsNumeral 10) (sym (split_after 46 text front back (Some parts) cases (omega arith) is (no_point front numeral.1)).0) numeral

-- ---- a number, a point and more digits, and a word

abbrev IsTail : List ℕ → Type 0
IsTail [] = Unit {0}
IsTail (c ∷ ds) = (c ≡ 46) × AllDigits 10 ds

other_after : (tail name : List ℕ) → IsTail tail → Other name → Other (tail ++ name)
other_after [] name is other = other
other_after (c ∷ ds) name is other = λ h. let low = subst (λ x. digit_value x < 10) is.0 h in omega (arith, low)

abbrev first : List ℕ → ℕ
first [] = 0
first (c ∷ cs) = c

abbrev rest : List ℕ → List ℕ
rest [] = []
rest (c ∷ cs) = cs

pointed : (name : List ℕ) (c : ℕ) (cs : List ℕ) → NoPoint name → c ≡ 46 → name ≡ c ∷ cs → ⊥
pointed [] c cs none is e = none
pointed (d ∷ ds) c cs none is e = none (ap first e ∙ is)

same_tail : (t n u m : List ℕ) → IsTail t → IsTail u → Other n → Other m → NoPoint n → NoPoint m → t ++ n ≡ u ++ m → (t ≡ u) × (n ≡ m)
same_tail [] n [] m ist isu on om pn pm e = (refl, e)
same_tail [] n (c ∷ u) m ist isu on om pn pm e = absurd (pointed n c (u ++ m) pn isu.0 e)
same_tail (c ∷ t) n [] m ist isu on om pn pm e = absurd (pointed m c (t ++ n) pm ist.0 (sym e))
same_tail (c ∷ t) n (d ∷ u) m ist isu on om pn pm e =
    let more = same_digits t n u m ist.1 isu.1 on om (ap rest e) in
    (subst (λ x. c ∷ t ≡ x ∷ u) (ist.0 ∙ sym isu.0) (ap (λ l. c ∷ l) more.0), more.1)

-- The text is these three, in this order.
pub record Form (text whole tail : List ℕ) (kind unit : ℕ) : Type 0 where
  pub name : List ℕ
  pub is : text ≡ whole ++ (tail ++ name)
  pub digits : AllDigits 10 whole
  pub tail_is : IsTail tail
  pub named : Named kind unit name

abbrev pair_of : Option (ℕ × ℕ) → ℕ × ℕ
pair_of None = (0, 0)
pair_of (Some p) = p

pub one_form : (text w t v u : List ℕ) (k a l b : ℕ) → Form text w t k a → Form text v u l b → (w ≡ v) × (t ≡ u) × (k ≡ l) × (a ≡ b)
one_form text w t v u k a l b f g =
    let whole = same_digits w (t ++ f.name) v (u ++ g.name) f.digits g.digits (other_after t f.name f.tail_is f.named.other) (other_after u g.name g.tail_is g.named.other) (sym f.is ∙ g.is) in
    let tail = same_tail t f.name u g.name f.tail_is g.tail_is f.named.other g.named.other f.named.pointless g.named.pointless whole.1 in
    let pair = ap pair_of (sym f.named.means ∙ ap meaning tail.1 ∙ g.named.means) in
    (whole.0, tail.0, ap (λ p. p.0) pair, ap (λ p. p.1) pair)

-- The measure of a form.
abbrev pub millionths : List ℕ → List ℕ → ℕ
millionths whole ds = digits_value 10 whole * 10 ^ 6 + digits_value 10 ds * 10 ^ (6 - length ds)

abbrev value_of : ℕ → ℕ → List ℕ → List ℕ → Measure
value_of kind unit whole [] =
    if kind == 0 then Exactly (Sectors (digits_value 10 whole))
    else (if kind == 1 then Exactly (Bytes (digits_value 10 whole * unit))
    else (if kind == 2 then About (digits_value 10 whole * unit) else Share (digits_value 10 whole * 10 ^ 6)))
value_of kind unit whole (c ∷ ds) =
    if kind == 3 then Share (millionths whole ds) else About (millionths whole ds * unit / 10 ^ 6)

abbrev IsShort : List ℕ → Type 0
IsShort [] = Unit {0}
IsShort (c ∷ ds) = length ds ≤ 6

pub record FormOf (text : List ℕ) (measure : Measure) : Type 0 where
  pub whole : List ℕ
  pub tail : List ℕ
  pub kind : ℕ
  pub unit : ℕ
  pub form : Form text whole tail kind unit
  pub short : IsShort tail
  pub value : measure ≡ value_of kind unit whole tail
  pub numeral : IsNumeral 10 whole

count_form : (kind unit : ℕ) (text name : List ℕ) (n : ℕ) → Named kind unit name → (says : SaysCount text name n) → Form text says.0 [] kind unit
count_form kind unit text name n named (number, is, numeral, v) =
    record { name = name; is = is; digits = numeral.1; tail_is = tt; named = named }

point_form : (kind unit : ℕ) (text name : List ℕ) (n : ℕ) → Named kind unit name → (says : SaysMillionths text name n) → Form text says.0 (46 ∷ says.1) kind unit
point_form kind unit text name n named (whole, tail, is, w, t, short, v) =
    record { name = name; is = is; digits = w.1; tail_is = (refl, t.1); named = named }

part_form : (kind : ℕ) (table : List (List ℕ × ℕ)) (text : List ℕ) (n : ℕ) → ((name : List ℕ) (unit : ℕ) → Contains table (name, unit) → Named kind unit name)
    → ((unit : ℕ) (whole : List ℕ) (ds : List ℕ) → value_of kind unit whole (46 ∷ ds) ≡ About (millionths whole ds * unit / 10 ^ 6))
    → SaysPart table text n → FormOf text (About n)
part_form kind table text n names value (name, unit, m, has, says, floor) = record {
  whole = says.0;
  tail = 46 ∷ says.1;
  kind = kind;
  unit = unit;
  form = point_form kind unit text name m (names name unit has) says;
  short = says.5;
  value = ap About (sym floor ∙ ap (λ x. x * unit / 10 ^ 6) (sym says.6)) ∙ sym (value unit says.0 says.1);
  numeral = says.3;
}

pub form_of : (text : List ℕ) (measure : Measure) → SaysMeasure text measure → FormOf text measure
form_of text (Exactly (Sectors n)) says = record {
  whole = says.0;
  tail = [];
  kind = 0;
  unit = 1;
  form = count_form 0 1 text _ n named_s says;
  short = tt;
  value = ap (λ v. Exactly (Sectors v)) (sym says.3);
  numeral = says.2;
}
form_of text (Exactly (Bytes n)) (name, unit, count, has, says, is) = record {
  whole = says.0;
  tail = [];
  kind = 1;
  unit = unit;
  form = count_form 1 unit text name count (binary_row name unit has).0 says;
  short = tt;
  value = ap (λ v. Exactly (Bytes v)) (sym is ∙ ap (λ x. x * unit) (sym says.3));
  numeral = says.2;
}
form_of text (About n) (inl (name, unit, count, has, says, is)) = record {
  whole = says.0;
  tail = [];
  kind = 2;
  unit = unit;
  form = count_form 2 unit text name count (decimal_row name unit has).0 says;
  short = tt;
  value = ap About (sym is ∙ ap (λ x. x * unit) (sym says.3));
  numeral = says.2;
}
form_of text (About n) (inr (inl part)) = part_form 1 binary_units text n (λ name unit has. (binary_row name unit has).0) (λ unit whole ds. refl) part
form_of text (About n) (inr (inr part)) = part_form 2 decimal_units text n (λ name unit has. (decimal_row name unit has).0) (λ unit whole ds. refl) part
form_of text (Share n) (inl (percent, says, is)) = record {
  whole = says.0;
  tail = [];
  kind = 3;
  unit = 10 ^ 6;
  form = count_form 3 (10 ^ 6) text _ percent named_percent says;
  short = tt;
  value = ap Share (sym is ∙ ap (λ x. x * 10 ^ 6) (sym says.3));
  numeral = says.2;
}
form_of text (Share n) (inr says) = record {
  whole = says.0;
  tail = 46 ∷ says.1;
  kind = 3;
  unit = 10 ^ 6;
  form = point_form 3 (10 ^ 6) text _ n named_percent says;
  short = says.5;
  value = ap Share (sym says.6);
  numeral = says.3;
}

pub one_measure : (text : List ℕ) (a b : Measure) → SaysMeasure text a → SaysMeasure text b → a ≡ b
one_measure text a b x y =
    let f = form_of text a x in
    let g = form_of text b y in
    let same = one_form text f.whole f.tail g.whole g.tail f.kind f.unit g.kind g.unit f.form g.form in
    f.value ∙ ap (λ w. value_of f.kind f.unit w f.tail) same.0 ∙ ap (λ t. value_of f.kind f.unit g.whole t) same.1
    ∙ ap (λ k. value_of k f.unit g.whole g.tail) same.2 ∙ ap (λ u. value_of g.kind u g.whole g.tail) same.3 ∙ sym g.value

-- ---- what a reader returns

pub says_it : (text : List ℕ) (r : Result Measure Wrong) (m : Measure) → SaysMeasure text m → OkIff r (FitsMeasure m) m → IfOk r (SaysMeasure text)
says_it text (Ok x) m says read = subst (SaysMeasure text) (sym read.1) says
says_it text (Err e) m says read = tt

pub reads_it : (text : List ℕ) (r : Result Measure Wrong) (m : Measure) → SaysMeasure text m → OkIff r (FitsMeasure m) m
    → (measure : Measure) → SaysMeasure text measure → FitsMeasure measure → r ≡ Ok measure
reads_it text (Ok x) m says read measure says' fits = ap Ok (read.1 ∙ one_measure text m measure says says')
reads_it text (Err e) m says read measure says' fits = absurd (read (subst FitsMeasure (sym (one_measure text m measure says says')) fits))

-- ---- no measure

abbrev pub NoWord : List (List ℕ × ℕ) → List ℕ → Type 0
NoWord table text = (number : List ℕ) (name : List ℕ) (unit : ℕ) → IsNumeral 10 number → Contains table (name, unit) → text ≢ number ++ name

pub none_whole : (text : List ℕ) (r : Result Measure Wrong) → ((front : List ℕ) (back : List ℕ) → IsNumeral 10 front → text ≢ front ++ (codes "." ++ back))
    → ((number : List ℕ) → IsNumeral 10 number → text ≢ number ++ codes "s") → ((number : List ℕ) → IsNumeral 10 number → text ≢ number ++ codes "%")
    → NoWord binary_units text → NoWord decimal_units text
    → (measure : Measure) → SaysMeasure text measure → FitsMeasure measure → r ≡ Ok measure
none_whole text r point s percent binary decimal (Exactly (Sectors n)) (number, is, numeral, v) fits = absurd (s number numeral is)
none_whole text r point s percent binary decimal (Exactly (Bytes n)) (name, unit, count, has, (number, is, numeral, v), total) fits = absurd (binary number name unit numeral has is)
none_whole text r point s percent binary decimal (About n) (inl (name, unit, count, has, (number, is, numeral, v), total)) fits = absurd (decimal number name unit numeral has is)
none_whole text r point s percent binary decimal (About n) (inr (inl (name, unit, m, has, (whole, tail, is, w, t, short, v), floor))) fits = absurd (point whole (tail ++ name) w is)
none_whole text r point s percent binary decimal (About n) (inr (inr (name, unit, m, has, (whole, tail, is, w, t, short, v), floor))) fits = absurd (point whole (tail ++ name) w is)
none_whole text r point s percent binary decimal (Share n) (inl (count, (number, is, numeral, v), total)) fits = absurd (percent number numeral is)
none_whole text r point s percent binary decimal (Share n) (inr (whole, tail, is, w, t, short, v)) fits = absurd (point whole (tail ++ codes "%") w is)

no_count : (whole back number name : List ℕ) (kind unit : ℕ) → IsNumeral 10 whole → IsNumeral 10 number → Named kind unit name
    → whole ++ (codes "." ++ back) ≡ number ++ name → ⊥
no_count whole back number name kind unit w n named is =
    let same = same_digits whole (46 ∷ back) number name w.1 n.1 (λ h. omega (arith, h)) named.other is in
    pointed name 46 back named.pointless refl (sym same.1)

same_back : (whole back front tail name : List ℕ) → IsNumeral 10 whole → IsNumeral 10 front
    → whole ++ (codes "." ++ back) ≡ front ++ (codes "." ++ (tail ++ name)) → back ≡ tail ++ name
same_back whole back front tail name w f is =
    ap rest (same_digits whole (46 ∷ back) front (46 ∷ (tail ++ name)) w.1 f.1 (λ h. omega (arith, h)) (λ h. omega (arith, h)) is).1

pub none_fraction : (whole back : List ℕ) (r : Result Measure Wrong) → IsNumeral 10 whole
    → ((number : List ℕ) → IsNumeral 10 number → back ≢ number ++ codes "%") → NoWord binary_units back → NoWord decimal_units back
    → (measure : Measure) → SaysMeasure (whole ++ (codes "." ++ back)) measure → FitsMeasure measure → r ≡ Ok measure
none_fraction whole back r w percent binary decimal (Exactly (Sectors n)) (number, is, numeral, v) fits =
    absurd (no_count whole back number (codes "s") 0 1 w numeral named_s is)
none_fraction whole back r w percent binary decimal (Exactly (Bytes n)) (name, unit, count, has, (number, is, numeral, v), total) fits =
    absurd (no_count whole back number name 1 unit w numeral (binary_row name unit has).0 is)
none_fraction whole back r w percent binary decimal (About n) (inl (name, unit, count, has, (number, is, numeral, v), total)) fits =
    absurd (no_count whole back number name 2 unit w numeral (decimal_row name unit has).0 is)
none_fraction whole back r w percent binary decimal (About n) (inr (inl (name, unit, m, has, (front, tail, is, f, t, short, v), floor))) fits =
    absurd (binary tail name unit t has (same_back whole back front tail name w f is))
none_fraction whole back r w percent binary decimal (About n) (inr (inr (name, unit, m, has, (front, tail, is, f, t, short, v), floor))) fits =
    absurd (decimal tail name unit t has (same_back whole back front tail name w f is))
none_fraction whole back r w percent binary decimal (Share n) (inl (count, (number, is, numeral, v), total)) fits =
    absurd (no_count whole back number (codes "%") 3 (10 ^ 6) w numeral named_percent is)
none_fraction whole back r w percent binary decimal (Share n) (inr (front, tail, is, f, t, short, v)) fits =
    absurd (percent tail t (same_back whole back front tail (codes "%") w f is))

-- ---- at most six digits after the point

-- What a reader of a number with a point returns, if it takes at most six digits.
pub reads_short : (text whole ds : List ℕ) (kind unit : ℕ) (m : Measure) (r : Result Measure Wrong) → (f : Form text whole (46 ∷ ds) kind unit)
    → (length ds ≤ 6 → SaysMeasure text m)
    → OkIff r ((length ds ≤ 6) × FitsMeasure m) m → IfOk r (SaysMeasure text) × ((measure : Measure) → SaysMeasure text measure → FitsMeasure measure → r ≡ Ok measure)
reads_short text whole ds kind unit m (Ok x) f says read =
    (subst (SaysMeasure text) (sym read.1) (says read.0.0), λ measure says' fits'. ap Ok (read.1 ∙ one_measure text m measure (says read.0.0) says'))
reads_short text whole ds kind unit m (Err e) f says read = (
  tt,
  λ measure says' fits'.
      let g = form_of text measure says' in
      let one = one_form text whole (46 ∷ ds) g.whole g.tail kind unit g.kind g.unit f g.form in
      let short : length ds ≤ 6 = subst IsShort (sym one.1) g.short in
      absurd (read (short, subst FitsMeasure (sym (one_measure text m measure (says short) says')) fits')),
)

starts_with : (whole back : List ℕ) → IsNumeral 10 whole → digit_value (first (whole ++ back)) < 10
starts_with [] back numeral = absurd (omega (arith, numeral.0))
starts_with (c ∷ cs) back numeral = numeral.1.0

-- A measure starts with a digit.
pub starts : (text : List ℕ) (measure : Measure) → SaysMeasure text measure → digit_value (first text) < 10
starts text measure says =
    let f = form_of text measure says in
    subst (λ t. digit_value (first t) < 10) (sym f.form.is) (starts_with f.whole (f.tail ++ f.form.name) f.numeral)

-- ---- arithmetic

pub parts_of : (v m unit : ℕ) → (v * 10 ^ 6 + m) * unit / 10 ^ 6 ≡ v * unit + m * unit / 10 ^ 6
parts_of v m unit =
    let total : (v * 10 ^ 6 + m) * unit ≡ v * unit * 10 ^ 6 + m * unit = add-mul (v * 10 ^ 6) m unit ∙ ap (λ x. x + m * unit) (mul_right_comm v (10 ^ 6) unit) in
    ap (λ x. x / 10 ^ 6) total ∙ mul-add-div_right (omega arith) (v * unit) (m * unit)

pub below_unit : (m unit : ℕ) → m < 10 ^ 6 → unit ≤ 2 ^ 40 → m * unit < 2 ^ 64
below_unit m unit small most = let le : m * unit ≤ 10 ^ 6 * 2 ^ 40 = mul-le m unit (10 ^ 6) (2 ^ 40) (omega (arith, small)) most in omega (arith, le)

pub below_million : (ds : List ℕ) → IsNumeral 10 ds → length ds ≤ 6 → digits_value 10 ds * 10 ^ (6 - length ds) < 10 ^ 6
below_million ds numeral short =
    let six : length ds + (6 - length ds) ≡ 6 = omega (arith, short) in
    let total : 10 ^ length ds * 10 ^ (6 - length ds) ≡ 10 ^ 6 = sym (pow-add 10 (length ds) (6 - length ds)) ∙ ap (λ k. 10 ^ k) six in
    let less : digits_value 10 ds * 10 ^ (6 - length ds) < 10 ^ length ds * 10 ^ (6 - length ds) = mul-lt-mul_of_pos_right (digits_value-lt 10 ds numeral.1) (one-le-pow (6 - length ds) 10 (omega arith)) in
    subst (λ x. digits_value 10 ds * 10 ^ (6 - length ds) < x) total less

pub fits_64 : (ds : List ℕ) → IsNumeral 10 ds → length ds ≤ 6 → digits_value 10 ds < 2 ^ 64
fits_64 ds numeral short =
    let small = below_million ds numeral short in
    let scaled : digits_value 10 ds ≤ digits_value 10 ds * 10 ^ (6 - length ds) = le-mul_of_pos_right (digits_value 10 ds) (one-le-pow (6 - length ds) 10 (omega arith)) in
    omega (arith, small, scaled)

-- ---- what the parts of a reader return

abbrev pub Reads : List ℕ → Result Measure Wrong → Type 0
Reads text r = IfOk r (SaysMeasure text) × ((measure : Measure) → SaysMeasure text measure → FitsMeasure measure → r ≡ Ok measure)

reads : (text : List ℕ) (r : Result Measure Wrong) (m : Measure) → SaysMeasure text m → OkIff r (FitsMeasure m) m → Reads text r
reads text r m says read = (says_it text r m says read, reads_it text r m says read)

pub reads_sectors : (text number : List ℕ) (r : Result Measure Wrong) → IsNumeral 10 number → text ≡ number ++ codes "s"
    → OkIff r (digits_value 10 number < 2 ^ 64) (Exactly (Sectors (digits_value 10 number))) → Reads text r
reads_sectors text number r numeral is read = reads text r (Exactly (Sectors (digits_value 10 number))) (number, is, numeral, refl) read

pub reads_percent : (text number : List ℕ) (r : Result Measure Wrong) → IsNumeral 10 number → text ≡ number ++ codes "%"
    → OkIff r (digits_value 10 number * 10 ^ 6 ≤ 10 ^ 8) (Share (digits_value 10 number * 10 ^ 6)) → Reads text r
reads_percent text number r numeral is read =
    reads text r (Share (digits_value 10 number * 10 ^ 6)) (inl (digits_value 10 number, (number, is, numeral, refl), refl)) read

-- The name of a unit stands after the number.
abbrev pub HasName : List (List ℕ × ℕ) → List ℕ → List ℕ → ℕ → Type 0
HasName table text number unit = (name : List ℕ) × Contains table (name, unit) × (text ≡ number ++ name)

pub reads_bytes : (text number : List ℕ) (unit : ℕ) (r : Result Measure Wrong) → IsNumeral 10 number → HasName binary_units text number unit
    → OkIff r (digits_value 10 number * unit < 2 ^ 64) (Exactly (Bytes (digits_value 10 number * unit))) → Reads text r
reads_bytes text number unit r numeral (name, has, is) read =
    reads text r (Exactly (Bytes (digits_value 10 number * unit))) (name, unit, digits_value 10 number, has, (number, is, numeral, refl), refl) read

pub reads_about : (text number : List ℕ) (unit : ℕ) (r : Result Measure Wrong) → IsNumeral 10 number → HasName decimal_units text number unit
    → OkIff r (digits_value 10 number * unit < 2 ^ 64) (About (digits_value 10 number * unit)) → Reads text r
reads_about text number unit r numeral (name, has, is) read =
    reads text r (About (digits_value 10 number * unit)) (inl (name, unit, digits_value 10 number, has, (number, is, numeral, refl), refl)) read

joined : (whole tail back name : List ℕ) → back ≡ tail ++ name → whole ++ (codes "." ++ back) ≡ whole ++ (codes "." ++ (tail ++ name))
joined whole tail back name is = ap (λ l. whole ++ (46 ∷ l)) is

pointed_form : (whole tail back name : List ℕ) (kind unit : ℕ) → IsNumeral 10 whole → IsNumeral 10 tail → back ≡ tail ++ name → Named kind unit name
    → Form (whole ++ (codes "." ++ back)) whole (46 ∷ tail) kind unit
pointed_form whole tail back name kind unit w t is named =
    record { name = name; is = joined whole tail back name is; digits = w.1; tail_is = (refl, t.1); named = named }

pub reads_share : (whole tail back : List ℕ) (r : Result Measure Wrong) → IsNumeral 10 whole → IsNumeral 10 tail → back ≡ tail ++ codes "%"
    → OkIff r ((length tail ≤ 6) × (millionths whole tail ≤ 10 ^ 8)) (Share (millionths whole tail)) → Reads (whole ++ (codes "." ++ back)) r
reads_share whole tail back r w t is read =
    reads_short (whole ++ (codes "." ++ back)) whole tail 3 (10 ^ 6) (Share (millionths whole tail)) r (pointed_form whole tail back (codes "%") 3 (10 ^ 6) w t is named_percent)
    (λ short. inr (whole, tail, joined whole tail back (codes "%") is, w, t, short, refl)) read

pub reads_binary : (whole tail back : List ℕ) (unit : ℕ) (r : Result Measure Wrong) → IsNumeral 10 whole → IsNumeral 10 tail → HasName binary_units back tail unit
    → OkIff r ((length tail ≤ 6) × (millionths whole tail * unit / 10 ^ 6 < 2 ^ 64)) (About (millionths whole tail * unit / 10 ^ 6)) → Reads (whole ++ (codes "." ++ back)) r
reads_binary whole tail back unit r w t (name, has, is) read =
    reads_short (whole ++ (codes "." ++ back)) whole tail 1 unit (About (millionths whole tail * unit / 10 ^ 6)) r (pointed_form whole tail back name 1 unit w t is (binary_row name unit has).0)
    (λ short. inr (inl (name, unit, millionths whole tail, has, (whole, tail, joined whole tail back name is, w, t, short, refl), refl))) read

pub reads_decimal : (whole tail back : List ℕ) (unit : ℕ) (r : Result Measure Wrong) → IsNumeral 10 whole → IsNumeral 10 tail → HasName decimal_units back tail unit
    → OkIff r ((length tail ≤ 6) × (millionths whole tail * unit / 10 ^ 6 < 2 ^ 64)) (About (millionths whole tail * unit / 10 ^ 6)) → Reads (whole ++ (codes "." ++ back)) r
reads_decimal whole tail back unit r w t (name, has, is) read =
    reads_short (whole ++ (codes "." ++ back)) whole tail 2 unit (About (millionths whole tail * unit / 10 ^ 6)) r (pointed_form whole tail back name 2 unit w t is (decimal_row name unit has).0)
    (λ short. inr (inr (name, unit, millionths whole tail, has, (whole, tail, joined whole tail back name is, w, t, short, refl), refl))) read

-- ---- positions and sizes

abbrev IsRead : Result Measure Wrong → Type 0
IsRead (Ok m) = Unit {0}
IsRead (Err e) = ⊥

-- A text that is no measure that fits.
abbrev pub SaysNoMeasure : List ℕ → Type 0
SaysNoMeasure text = (measure : Measure) → SaysMeasure text measure → ¬ (FitsMeasure measure)

pub none_read : (text : List ℕ) (wrong : Wrong) → ((measure : Measure) → SaysMeasure text measure → FitsMeasure measure → ◌≡◌ {A = Result Measure Wrong} (Err wrong) (Ok measure)) → SaysNoMeasure text
none_read text wrong read measure says fits = subst IsRead (sym (read measure says fits)) tt

other_start : (text : List ℕ) (measure : Measure) (c : ℕ) (cs : List ℕ) → ¬ (digit_value c < 10) → text ≡ c ∷ cs → ¬ (SaysMeasure text measure)
other_start text measure c cs other is says = other (subst (λ t. digit_value (first t) < 10) is (starts text measure says))

pub no_minus : (text back : List ℕ) (measure : Measure) → text ≡ codes "-" ++ back → ¬ (SaysMeasure text measure)
no_minus text back measure is = other_start text measure 45 back (λ h. omega (arith, h)) is

pub no_plus : (text back : List ℕ) (measure : Measure) → text ≡ codes "+" ++ back → ¬ (SaysMeasure text measure)
no_plus text back measure is = other_start text measure 43 back (λ h. omega (arith, h)) is

pub no_position : (text back : List ℕ) (wrong : Wrong) → text ≡ codes "-" ++ back
    → ((measure : Measure) → SaysMeasure back measure → FitsMeasure measure → ◌≡◌ {A = Result Measure Wrong} (Err wrong) (Ok measure)) → SaysNoPosition text
no_position text back wrong is read (FromStart m) says fits = no_minus text back m is says
no_position text back wrong is read (FromEnd m) (other, is', says) fits =
    none_read back wrong read m (subst (λ t. SaysMeasure t m) (ap rest (sym is' ∙ is)) says) fits

pub no_start : (text : List ℕ) (wrong : Wrong) → ((back : List ℕ) → text ≢ codes "-" ++ back)
    → ((measure : Measure) → SaysMeasure text measure → FitsMeasure measure → ◌≡◌ {A = Result Measure Wrong} (Err wrong) (Ok measure)) → SaysNoPosition text
no_start text wrong plain read (FromStart m) says fits = none_read text wrong read m says fits
no_start text wrong plain read (FromEnd m) (back, is, says) fits = plain back is

pub no_length : (text : List ℕ) (wrong : Wrong) → text ≢ codes "rest"
    → ((measure : Measure) → SaysMeasure text measure → FitsMeasure measure → ◌≡◌ {A = Result Measure Wrong} (Err wrong) (Ok measure)) → SaysNoLength text
no_length text wrong other read (Size m) says fits = none_read text wrong read m says fits
no_length text wrong other read Rest says fits = other says
no_length text wrong other read (End p) says fits = says
no_length text wrong other read (More m) says fits = says
no_length text wrong other read (Less m) says fits = says

signs_differ : (text a b : List ℕ) → text ≡ codes "+" ++ a → text ≡ codes "-" ++ b → ⊥
signs_differ text a b plus minus = let same = ap first (sym plus ∙ minus) in omega (arith, same)

pub no_longer : (text back : List ℕ) (wrong : Wrong) → text ≢ codes "max" → text ≡ codes "+" ++ back
    → ((measure : Measure) → SaysMeasure back measure → FitsMeasure measure → ◌≡◌ {A = Result Measure Wrong} (Err wrong) (Ok measure)) → SaysNoNewLength text
no_longer text back wrong other is read (Size m) says fits = no_plus text back m is says
no_longer text back wrong other is read Rest says fits = other says
no_longer text back wrong other is read (End p) says fits = says
no_longer text back wrong other is read (More m) (a, is', says) fits = none_read back wrong read m (subst (λ t. SaysMeasure t m) (ap rest (sym is' ∙ is)) says) fits
no_longer text back wrong other is read (Less m) (a, is', says) fits = signs_differ text back a is is'

pub no_shorter : (text back : List ℕ) (wrong : Wrong) → text ≢ codes "max" → text ≡ codes "-" ++ back
    → ((measure : Measure) → SaysMeasure back measure → FitsMeasure measure → ◌≡◌ {A = Result Measure Wrong} (Err wrong) (Ok measure)) → SaysNoNewLength text
no_shorter text back wrong other is read (Size m) says fits = no_minus text back m is says
no_shorter text back wrong other is read Rest says fits = other says
no_shorter text back wrong other is read (End p) says fits = says
no_shorter text back wrong other is read (More m) (a, is', says) fits = signs_differ text a back is' is
no_shorter text back wrong other is read (Less m) (a, is', says) fits = none_read back wrong read m (subst (λ t. SaysMeasure t m) (ap rest (sym is' ∙ is)) says) fits

pub no_new_length : (text : List ℕ) (wrong : Wrong) → text ≢ codes "max" → ((back : List ℕ) → text ≢ codes "+" ++ back) → ((back : List ℕ) → text ≢ codes "-" ++ back)
    → ((measure : Measure) → SaysMeasure text measure → FitsMeasure measure → ◌≡◌ {A = Result Measure Wrong} (Err wrong) (Ok measure)) → SaysNoNewLength text
no_new_length text wrong other plus minus read (Size m) says fits = none_read text wrong read m says fits
no_new_length text wrong other plus minus read Rest says fits = other says
no_new_length text wrong other plus minus read (End p) says fits = says
no_new_length text wrong other plus minus read (More m) (back, is, says) fits = plus back is
no_new_length text wrong other plus minus read (Less m) (back, is, says) fits = minus back is
