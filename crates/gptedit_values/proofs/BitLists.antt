-- Attributes are read from a list word by word.
use Rattle.std.proofs.Common.{◌≡◌, ◌<◌, ◌^◌, ℕ, suc, List, [], ◌∷◌, All, ◌==◌, length, subst, sym, ap, ◌∙◌, refl, arith, inl, inr}
use Rattle.std.specs.Prelude.{◌≢◌, Contains, Option, Some, None, bit_or}
use Rattle.std.specs.Int.{bit_at}
use Rattle.std.specs.List.{Any}
use Rattle.std.proofs.lemmas.Bool.{cases_eq}
use Rattle.std.proofs.lemmas.Iterator.{YieldsList}
use Rattle.std.proofs.lemmas.List.Elements.{All-cons, All-head, All-nil, All-tail}
use Rattle.std.proofs.lemmas.Nat.Bits.{bit_at-lt, bit_at-pow_other, bit_at-pow_same, bit_at-zero, bit_at_or, same_from_bits}
use Rattle.std.specs.Prelude.{Result, Ok, Err, codes, IfErr, ◌++◌}
use Rattle.std.specs.List.{onto_first, slice_split}
use Rattle.std.specs.Result.{OkIff}
use Rattle.std.specs.Str.Parse.{digits_value, IsNumeral}
use Rattle.std.proofs.lemmas.Bool.{cases_lt}
use Rattle.gptedit_values.specs.Words.{attribute_names, HasBitsOf, IsAttribute, SaysBit, SaysNoAttributes, words_of}
use Rattle.gptedit_values.specs.declared.wrong.Wrong.{Wrong}
use Rattle.gptedit_values.proofs.Tables.{each_of}

-- ---- numbers by their bits

or_assoc : (a b c : ℕ) → bit_or a (bit_or b c) ≡ bit_or (bit_or a b) c
or_assoc a b c = same_from_bits _ _ (λ i.
    omega (arith, bit_at_or a (bit_or b c) i, bit_at_or b c i, bit_at_or (bit_or a b) c i, bit_at_or a b i))

zero_or : (a : ℕ) → a ≡ bit_or 0 a
zero_or a = same_from_bits _ _ (λ i. omega (arith, bit_at_or 0 a i, bit_at-zero i))

or_zero : (a : ℕ) → bit_or a 0 ≡ a
or_zero a = same_from_bits _ _ (λ i. omega (arith, bit_at_or a 0 i, bit_at-zero i))

one_of : (a b i : ℕ) → bit_at (bit_or a b) i ≡ 1 → bit_at b i ≢ 1 → bit_at a i ≡ 1
one_of a b i both other = omega (arith, bit_at_or a b i, both, other, bit_at-lt a i, bit_at-lt b i)

left_of : (a b i : ℕ) → bit_at a i ≡ 1 → bit_at (bit_or a b) i ≡ 1
left_of a b i has = omega (arith, bit_at_or a b i, has, bit_at-lt b i)

right_of : (a b i : ℕ) → bit_at b i ≡ 1 → bit_at (bit_or a b) i ≡ 1
right_of a b i has = omega (arith, bit_at_or a b i, has, bit_at-lt a i)

this_bit : (bit i : ℕ) → bit_at (2 ^ bit) i ≡ 1 → i ≡ bit
this_bit bit i has = elim (cases_eq i bit) [
  | inl same ↦ same
  | inr other ↦ let none = bit_at-pow_other bit i other in absurd (omega (arith, has, none))
]

-- ---- lists

any_tail : {A : Type 0} (P : A → Type 0) (x : A) (xs : List A) → Any P xs → Any P (x ∷ xs)
any_tail P x xs (k, y, within, is, holds) = (suc k, y, omega (arith, within), is, holds)

has_none : {A : Type 0} (says : A → ℕ → Type 0) → HasBitsOf says [] 0
has_none says = record {
  there = All-nil _;
  only = λ bit is. absurd (omega (arith, is, bit_at-zero bit));
}

has_more : {A : Type 0} (says : A → ℕ → Type 0) (x : A) (xs : List A) (bit rest : ℕ) → says x bit → HasBitsOf says xs rest
    → HasBitsOf says (x ∷ xs) (bit_or (2 ^ bit) rest)
has_more {A} says x xs bit rest said more = record {
  there = All-cons (λ (one : A). (b : ℕ) × says one b × (bit_at (bit_or (2 ^ bit) rest) b ≡ 1)) x xs (bit, said, left_of (2 ^ bit) rest bit (bit_at-pow_same bit))
      (λ k d within. let at = more.there k d within in (at.0, at.1, right_of (2 ^ bit) rest at.0 at.2));
  only = λ i is. elim (cases_eq (bit_at rest i) 1) [
    | inl has ↦ any_tail (λ one. says one i) x xs (more.only i has)
    | inr not ↦ let same = this_bit bit i (one_of (2 ^ bit) rest i is not) in
        (0, x, omega arith, refl, subst (λ b. says x b) (sym same) said)
  ];
}

-- ---- a list that is partly read

abbrev pub IsSaid : {A : Type 0} → (A → ℕ → Type 0) → A → Type 0
IsSaid says x = (bit : ℕ) × says x bit

-- The attributes so far, with those of the remaining elements, are those of all.
pub record Sofar {A : Type 0} (says : A → ℕ → Type 0) (all left : List A) (done : ℕ) : Type 0 where
  pub bits : (rest : ℕ) → HasBitsOf says left rest → HasBitsOf says all (bit_or done rest)
  pub known : All (IsSaid says) all → All (IsSaid says) left

pub sofar_first : {A : Type 0} (says : A → ℕ → Type 0) (all : List A) (done : ℕ) → done ≡ 0 → Sofar says all all done
sofar_first says all done none = record {
  bits = λ rest h. subst (HasBitsOf says all) (subst (λ d. rest ≡ bit_or d rest) (sym none) (zero_or rest)) h;
  known = λ h. h;
}

pub sofar_next : {A : Type 0} (says : A → ℕ → Type 0) (all : List A) (x : A) (xs : List A) (done value : ℕ) → Sofar says all (x ∷ xs) done
    → (bit : ℕ) × says x bit × (value ≡ 2 ^ bit) → Sofar says all xs (bit_or done value)
sofar_next says all x xs done value sofar (bit, said, is) = record {
  bits = λ rest h.
      let more : HasBitsOf says (x ∷ xs) (bit_or value rest) = subst (λ w. HasBitsOf says (x ∷ xs) (bit_or w rest)) (sym is) (has_more says x xs bit rest said h) in
      subst (HasBitsOf says all) (or_assoc done value rest) (sofar.bits (bit_or value rest) more);
  known = λ h. All-tail (IsSaid says) x xs (sofar.known h);
}

pub sofar_all : {A : Type 0} (says : A → ℕ → Type 0) (all : List A) (done : ℕ) → Sofar says all [] done → HasBitsOf says all done
sofar_all says all done sofar = subst (HasBitsOf says all) (or_zero done) (sofar.bits 0 (has_none says))

pub sofar_wrong : {A : Type 0} (says : A → ℕ → Type 0) (all : List A) (x : A) (xs : List A) (done : ℕ) → Sofar says all (x ∷ xs) done
    → ¬ (IsSaid says x) → ¬ (All (IsSaid says) all)
sofar_wrong says all x xs done sofar wrong = λ h. wrong (All-head (IsSaid says) x xs (sofar.known h))

-- The iterator returns the rest of the list, after elements with these attributes.
pub record Reads {S A B : Type 0} (steps : S → Option A → S → Type 0) (v : A → B) (says : B → ℕ → Type 0) (all : List B) (s : S) (done : ℕ) : Type 0 where
  pub left : List B
  pub comes : YieldsList steps v s left
  pub sofar : Sofar says all left done

module _ {S A B : Type 0} (steps : S → Option A → S → Type 0) (v : A → B) (says : B → ℕ → Type 0) (all : List B) where
  pub reads_first : (s : S) (done : ℕ) → YieldsList steps v s all → done ≡ 0 → Reads steps v says all s done
  reads_first s done comes none = record { left = all; comes = comes; sofar = sofar_first says all done none }

  pub next_of : (s t : S) (x : A) (left : List B) → YieldsList steps v s left → steps s (Some x) t
      → (ys : List B) × (left ≡ v x ∷ ys) × YieldsList steps v t ys
  next_of s t x [] comes step = absurd (comes.runs x t step)
  next_of s t x (y ∷ ys) comes step =
      let more = comes.runs.1 x t step in
      (ys, ap (λ z. z ∷ ys) (sym more.0), record { runs = more.1 })

  pub end_of : (s t : S) (left : List B) → YieldsList steps v s left → steps s None t → left ≡ []
  end_of s t [] comes step = refl
  end_of s t (y ∷ ys) comes step = absurd (comes.runs.0 t step)

  pub reads_next : (s t : S) (x : A) (done value : ℕ) → Reads steps v says all s done → steps s (Some x) t
      → (bit : ℕ) × says (v x) bit × (value ≡ 2 ^ bit) → Reads steps v says all t (bit_or done value)
  reads_next s t x done value reads step said =
      let cut = next_of s t x reads.left reads.comes step in
      record {
        left = cut.0;
        comes = cut.2;
        sofar = sofar_next says all (v x) cut.0 done value (subst (λ left. Sofar says all left done) cut.1 reads.sofar) said;
      }

  pub reads_all : (s t : S) (done : ℕ) → Reads steps v says all s done → steps s None t → HasBitsOf says all done
  reads_all s t done reads step =
      sofar_all says all done (subst (λ left. Sofar says all left done) (end_of s t reads.left reads.comes step) reads.sofar)

  pub reads_wrong : (s t : S) (x : A) (done : ℕ) → Reads steps v says all s done → steps s (Some x) t
      → ¬ (IsSaid says (v x)) → ¬ (All (IsSaid says) all)
  reads_wrong s t x done reads step wrong =
      let cut = next_of s t x reads.left reads.comes step in
      sofar_wrong says all (v x) cut.0 done (subst (λ left. Sofar says all left done) cut.1 reads.sofar) wrong

pub not_attribute : (word : List ℕ) → ((bit : ℕ) → ¬ (Contains attribute_names (word, bit)))
    → ¬ (IsNumeral 10 word × (digits_value 10 word < 64)) → ¬ (IsAttribute word)
not_attribute word name number (bit, (small, says)) = elim says [
  | inl has ↦ name bit has
  | inr numeral ↦ number (numeral.0, subst (λ n. n < 64) (sym numeral.1) small)
]

-- ---- all bits, as digits

abbrev pub first : List ℕ → ℕ
first [] = 0
first (c ∷ cs) = c

abbrev pub rest : List ℕ → List ℕ
rest [] = []
rest (c ∷ cs) = cs

abbrev front : List (List ℕ) → List ℕ
front [] = []
front (w ∷ ws) = w

abbrev others : List (List ℕ) → List (List ℕ)
others [] = []
others (w ∷ ws) = ws

front_of : (words : List (List ℕ)) → onto_first 48 (onto_first 120 words) ≡ (48 ∷ 120 ∷ front words) ∷ others words
front_of [] = refl
front_of (w ∷ ws) = refl

abbrev StartsOtherwise : List ℕ × ℕ → Type 0
StartsOtherwise row = first row.0 ≢ 48

no_bit : (word : List ℕ) (bit : ℕ) → SaysBit (48 ∷ 120 ∷ word) bit → ⊥
no_bit word bit (small, says) = elim says [
  | inl has ↦ each_of StartsOtherwise attribute_names
      ((λ h. omega (arith, h)), ((λ h. omega (arith, h)), ((λ h. omega (arith, h)), ((λ h. omega (arith, h)), ((λ h. omega (arith, h)), ((λ h. omega (arith, h)), tt))))))
      (48 ∷ 120 ∷ word, bit) has refl
  | inr number ↦ let low = number.0.1.1.0 in omega (arith, low)
]

no_words : (digits : List ℕ) → ¬ (All IsAttribute (words_of (codes "0x" ++ digits)))
no_words digits all =
    let split = slice_split (λ b. b == 44) digits in
    let word = All-head IsAttribute (48 ∷ 120 ∷ front split) (others split) (subst (All IsAttribute) (front_of split) all) in
    no_bit (front split) word.0 word.1

pub reads_digits : (text digits : List ℕ) (r : Result ℕ Wrong) → text ≡ codes "0x" ++ digits
    → OkIff r (IsNumeral 16 digits × (digits_value 16 digits < 2 ^ 64)) (digits_value 16 digits)
    → IfErr r (λ wrong. SaysNoAttributes text)
reads_digits text digits (Ok bits) is read = tt
reads_digits text digits (Err wrong) is read = record {
  words = λ all. no_words digits (subst (λ t. All IsAttribute (words_of t)) is all);
  some = λ none. let zero = ap length (sym none ∙ is) in omega (arith, zero);
  bits = λ attributes (digits', is', numeral, v).
      let same : digits' ≡ digits = ap (λ t. rest (rest t)) (sym is' ∙ is) in
      elim (cases_lt attributes (2 ^ 64)) [
        | inl low ↦ absurd (read (subst (IsNumeral 16) same numeral, subst (λ n. n < 2 ^ 64) (sym v ∙ ap (digits_value 16) same) low))
        | inr high ↦ high
      ];
}
