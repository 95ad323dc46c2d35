-- Changes of attributes are read from a list word by word.
use Rattle.std.proofs.Common.{◌≡◌, ◌<◌, ◌≤◌, ◌+◌, ◌-◌, ◌*◌, ◌^◌, ℕ, zero, suc, List, [], ◌∷◌, ◌++◌, All, subst, sym, ap, ◌∙◌, refl, arith, inl, inr, Bool, true, false}
use Rattle.std.specs.Prelude.{◌≢◌, ◌&&◌, nat_eq, nat_le, nat_lt, if◌then◌else◌, Option, Some, None, Result, Ok, Err, IfErr, IfOk, ◌%◌, Contains}
use Rattle.std.specs.Int.{bit_at}
use Rattle.std.specs.Str.Parse.{digits_value}
use Rattle.std.proofs.lemmas.Bool.{cases_eq, cases_lt, le-leb, lt-leb, lt-ltb, le-ltb}
use Rattle.std.proofs.lemmas.Iterator.{YieldsList}
use Rattle.std.proofs.lemmas.List.{append_assoc, append-nil}
use Rattle.std.proofs.lemmas.List.Elements.{All-head, All-tail}
use Rattle.std.proofs.lemmas.Nat.Bits.{bit_at-lt, bit_at-pow_other, bit_at-pow_same, bit_at-zero, bit_at_above, bit_at_cat_high, bit_at_cat_low, bit_at_ones, bit_at_ones_above}
use Rattle.std.proofs.lemmas.Nat.{one_shl, pow_pos, shl_whole}
use Rattle.gptedit_core.specs.Setting.{bit_after}
use Rattle.gptedit_core.specs.declared.attributes.AttributeChange.{AttributeChange}
use Rattle.gptedit_values.specs.Steps.{bit_fields, bits_from, step_bit, steps_bit, AreSteps, BitStep, IsStep, Makes, MakesStep, SaysField, SaysValue}
use Rattle.gptedit_values.specs.Words.{IsAttribute, SaysAttribute, SaysBit}
use Rattle.gptedit_values.specs.declared.wrong.Wrong.{Wrong}
use Rattle.gptedit_values.proofs.BitLists.{end_of, next_of, rest}
use Rattle.gptedit_values.proofs.BitLists as lists
use Rattle.gptedit_values.proofs.Tables.{each_of}

-- ---- one step

abbrev change_of : ℕ → ℕ → AttributeChange
change_of clear set = record { clear = clear; set = set }

abbrev picked : ℕ → ℕ → ℕ → ℕ
picked set clear b = if nat_eq set 1 then 1 else (if nat_eq clear 1 then 0 else b)

inside : (f w v k b : ℕ) → f ≤ k → k < f + w → step_bit (bits_from f w v) k b ≡ bit_at v (k - f)
inside f w v k b low high = rw (le-leb f k low, lt-ltb k (f + w) high) refl

below : (f w v k b : ℕ) → k < f → step_bit (bits_from f w v) k b ≡ b
below f w v k b low = rw (lt-leb f k low) refl

both_false : (p q : Bool) → q ≡ false → (p && q) ≡ false
both_false true q is = is
both_false false q is = refl

above : (f w v k b : ℕ) → f + w ≤ k → step_bit (bits_from f w v) k b ≡ b
above f w v k b high = ap (λ (t : Bool). if t then bit_at v (k - f) else b) (both_false (nat_le f k) (nat_lt k (f + w)) (le-ltb k (f + w) high))

outside_one : (bit v k b : ℕ) → k ≢ bit → step_bit (bits_from bit 1 v) k b ≡ b
outside_one bit v k b other = elim (cases_lt k bit) [
  | inl low ↦ below bit 1 v k b low
  | inr from ↦ above bit 1 v k b (omega (arith, from, other))
]

-- Bits of a number that is shifted.
shifted_low : (n shifted f k : ℕ) → shifted ≡ n * 2 ^ f → k < f → bit_at shifted k ≡ 0
shifted_low n shifted f k is low =
    let sum : shifted ≡ n * 2 ^ f + 0 = omega (arith, is) in
    ap (λ (m : ℕ). bit_at m k) sum ∙ (bit_at_cat_low n f 0 k low ∙ bit_at-zero k)

shifted_high : (n shifted f k : ℕ) → shifted ≡ n * 2 ^ f → f ≤ k → bit_at shifted k ≡ bit_at n (k - f)
shifted_high n shifted f k is from =
    let sum : shifted ≡ n * 2 ^ f + 0 = omega (arith, is) in
    ap (λ (m : ℕ). bit_at m k) sum ∙ bit_at_cat_high n f 0 k (pow_pos f) from

-- What a bit becomes.
pick_set : (s c b : ℕ) → s ≡ 1 → picked s c b ≡ 1
pick_set s c b is = rw (is) refl

pick_other : (s c b : ℕ) → s ≡ 0 → c ≡ 0 → picked s c b ≡ b
pick_other s c b is also = rw (is, also) refl

pick_cleared : (s c b : ℕ) → s ≡ 0 → c ≡ 1 → picked s c b ≡ 0
pick_cleared s c b is also = rw (is, also) refl

pick_all : (s c b : ℕ) → s < 2 → c ≡ 1 → picked s c b ≡ s
pick_all zero c b low is = rw (is) refl
pick_all (suc zero) c b low is = refl
pick_all (suc (suc s)) c b low is = absurd (omega (arith, low))

-- The bit of an attribute is set,
pub makes_set : (bit value : ℕ) → value ≡ 2 ^ bit → Makes (change_of 0 value) (step_bit (bits_from bit 1 1))
makes_set bit value is k b within = elim (cases_eq k bit) [
  | inl same ↦
      let one : bit_at value k ≡ 1 = ap (λ (n : ℕ). bit_at n k) is ∙ (ap (λ (n : ℕ). bit_at (2 ^ bit) n) same ∙ bit_at-pow_same bit) in
      let zero_is : k - bit ≡ 0 = omega (arith, same) in
      let first : bit_at 1 (k - bit) ≡ 1 = ap (λ (n : ℕ). bit_at 1 n) zero_is ∙ bit_at-pow_same 0 in
      pick_set (bit_at value k) (bit_at 0 k) b one ∙ sym (inside bit 1 1 k b (omega (arith, same)) (omega (arith, same)) ∙ first)
  | inr other ↦
      let none : bit_at value k ≡ 0 = ap (λ (n : ℕ). bit_at n k) is ∙ bit_at-pow_other bit k other in
      pick_other (bit_at value k) (bit_at 0 k) b none (bit_at-zero k) ∙ sym (outside_one bit 1 k b other)
]

-- or cleared.
pub makes_cleared : (bit value : ℕ) → value ≡ 2 ^ bit → Makes (change_of value 0) (step_bit (bits_from bit 1 0))
makes_cleared bit value is k b within = elim (cases_eq k bit) [
  | inl same ↦
      let one : bit_at value k ≡ 1 = ap (λ (n : ℕ). bit_at n k) is ∙ (ap (λ (n : ℕ). bit_at (2 ^ bit) n) same ∙ bit_at-pow_same bit) in
      pick_cleared (bit_at 0 k) (bit_at value k) b (bit_at-zero k) one ∙ sym (inside bit 1 0 k b (omega (arith, same)) (omega (arith, same)) ∙ bit_at-zero (k - bit))
  | inr other ↦
      let none : bit_at value k ≡ 0 = ap (λ (n : ℕ). bit_at n k) is ∙ bit_at-pow_other bit k other in
      pick_other (bit_at 0 k) (bit_at value k) b (bit_at-zero k) none ∙ sym (outside_one bit 0 k b other)
]

-- The bits of a field become those of its value.
pub makes_field : (f w v clear set : ℕ) → v < 2 ^ w → clear ≡ (2 ^ w - 1) * 2 ^ f → set ≡ v * 2 ^ f → Makes (change_of clear set) (step_bit (bits_from f w v))
makes_field f w v clear set fits is also k b within = elim (cases_lt k f) [
  | inl low ↦ pick_other (bit_at set k) (bit_at clear k) b (shifted_low v set f k also low) (shifted_low (2 ^ w - 1) clear f k is low) ∙ sym (below f w v k b low)
  | inr from ↦ elim (cases_lt k (f + w)) [
    | inl high ↦
        let ones : bit_at clear k ≡ 1 = shifted_high (2 ^ w - 1) clear f k is from ∙ bit_at_ones w (k - f) (omega (arith, from, high)) in
        pick_all (bit_at set k) (bit_at clear k) b (bit_at-lt set k) ones ∙ (shifted_high v set f k also from ∙ sym (inside f w v k b from high))
    | inr over ↦
        let none : bit_at set k ≡ 0 = shifted_high v set f k also from ∙ bit_at_above v w (k - f) fits (omega (arith, over)) in
        let free : bit_at clear k ≡ 0 = shifted_high (2 ^ w - 1) clear f k is from ∙ bit_at_ones_above w (k - f) (omega (arith, over)) in
        pick_other (bit_at set k) (bit_at clear k) b none free ∙ sym (above f w v k b over)
  ]
]

-- All bits become these.
pub makes_exactly : (clear set : ℕ) → clear ≡ 2 ^ 64 - 1 → Makes (change_of clear set) (λ k b. bit_at set k)
makes_exactly clear set is k b within =
    pick_all (bit_at set k) (bit_at clear k) b (bit_at-lt set k) (ap (λ (n : ℕ). bit_at n k) is ∙ bit_at_ones 64 k within)

-- The bits of a field, as they are computed below 2^64.
pub makes_bits : (f w value v : ℕ) → f + w < 64 → value ≡ v → v < 2 ^ w
    → Makes (change_of ((1 * 2 ^ w % 2 ^ 64 - 1) * 2 ^ f % 2 ^ 64) (value * 2 ^ f % 2 ^ 64)) (step_bit (bits_from f w v))
makes_bits f w value v within is fits =
    let clear : (1 * 2 ^ w % 2 ^ 64 - 1) * 2 ^ f % 2 ^ 64 ≡ (2 ^ w - 1) * 2 ^ f =
    ap (λ (n : ℕ). (n - 1) * 2 ^ f % 2 ^ 64) (one_shl w 64 (omega (arith, within)))
    ∙ shl_whole (2 ^ w - 1) w f 64 (omega (arith, pow_pos w)) (omega (arith, within)) in
    let set : value * 2 ^ f % 2 ^ 64 ≡ v * 2 ^ f =
    ap (λ (n : ℕ). n * 2 ^ f % 2 ^ 64) is ∙ shl_whole v w f 64 fits (omega (arith, within)) in
    makes_field f w v _ _ fits clear set

-- ---- words that are steps

pub plus_made : (word name : List ℕ) (value : ℕ) → word ≡ 43 ∷ name → SaysAttribute name value → MakesStep word (change_of 0 value)
plus_made word name value is (bit, said, v) = (bits_from bit 1 1, inl (name, bit, is, said, refl), makes_set bit value v)

pub minus_made : (word name : List ℕ) (value : ℕ) → word ≡ 45 ∷ name → SaysAttribute name value → MakesStep word (change_of value 0)
minus_made word name value is (bit, said, v) = (bits_from bit 1 0, inr (inl (name, bit, is, said, refl)), makes_cleared bit value v)

pub field_made : (word name digits : List ℕ) (f w : ℕ) (r : Result AttributeChange Wrong) → Contains bit_fields (name, (f, w)) → word ≡ name ++ digits
    → IfOk r (λ change. SaysValue digits w × Makes change (step_bit (bits_from f w (digits_value 10 digits)))) → IfOk r (MakesStep word)
field_made word name digits f w (Ok change) has is (value, makes) =
    (bits_from f w (digits_value 10 digits), inr (inr (name, digits, f, w, has, is, value, refl)), makes)
field_made word name digits f w (Err wrong) has is said = tt

-- ---- words that are no step

abbrev StartsOtherwise : ℕ → List ℕ × (ℕ × ℕ) → Type 0
StartsOtherwise x row = (digits : List ℕ) (name : List ℕ) → x ∷ name ≢ row.0 ++ digits

-- A word with a sign is no field.
no_field : (x : ℕ) (name : List ℕ) (step : BitStep) → x < 112 → ¬ (SaysField (x ∷ name) step)
no_field x name step low = λ says.
    each_of (StartsOtherwise x) bit_fields (
      (λ digits name same. let h = ap lists.first same in omega (arith, h, low)),
      ((λ digits name same. let h = ap lists.first same in omega (arith, h, low)), ((λ digits name same. let h = ap lists.first same in omega (arith, h, low)), tt)),
    )
    (says.0, (says.2, says.3)) says.4 says.1 name says.5

pub no_plus : (name : List ℕ) → ¬ (IsAttribute name) → ¬ (IsStep (43 ∷ name))
no_plus name wrong (step, says) = elim says [
  | inl (name', bit, is, said, more) ↦ wrong (bit, subst (λ (n : List ℕ). SaysBit n bit) (sym (ap rest is)) said)
  | inr (inl (name', bit, is, said, more)) ↦ let h = ap lists.first is in absurd (omega (arith, h))
  | inr (inr field) ↦ no_field 43 name step (omega arith) field
]

pub no_minus : (name : List ℕ) → ¬ (IsAttribute name) → ¬ (IsStep (45 ∷ name))
no_minus name wrong (step, says) = elim says [
  | inl (name', bit, is, said, more) ↦ let h = ap lists.first is in absurd (omega (arith, h))
  | inr (inl (name', bit, is, said, more)) ↦ wrong (bit, subst (λ (n : List ℕ). SaysBit n bit) (sym (ap rest is)) said)
  | inr (inr field) ↦ no_field 45 name step (omega arith) field
]

pub no_step : (word : List ℕ) → ((name : List ℕ) → word ≢ 43 ∷ name) → ((name : List ℕ) → word ≢ 45 ∷ name) → ((step : BitStep) → ¬ (SaysField word step)) → ¬ (IsStep word)
no_step word plus minus field (step, says) = elim says [
  | inl (name, bit, is, said, more) ↦ plus name is
  | inr (inl (name, bit, is, said, more)) ↦ minus name is
  | inr (inr named) ↦ field step named
]

pub not_plus : (word name : List ℕ) → word ≡ 43 ∷ name → ¬ (IsAttribute name) → ¬ (IsStep word)
not_plus word name is wrong = subst (λ (w : List ℕ). ¬ (IsStep w)) (sym is) (no_plus name wrong)

pub not_minus : (word name : List ℕ) → word ≡ 45 ∷ name → ¬ (IsAttribute name) → ¬ (IsStep word)
not_minus word name is wrong = subst (λ (w : List ℕ). ¬ (IsStep w)) (sym is) (no_minus name wrong)

pub not_step : (word : List ℕ) (r : Result AttributeChange Wrong) → ((name : List ℕ) → word ≢ 43 ∷ name) → ((name : List ℕ) → word ≢ 45 ∷ name)
    → IfErr r (λ wrong. (step : BitStep) → ¬ (SaysField word step)) → IfErr r (λ wrong. ¬ (IsStep word))
not_step word (Ok change) plus minus field = tt
not_step word (Err wrong) plus minus field = no_step word plus minus field

-- ---- a list that is partly read

-- The change makes the steps so far. Those with the steps of the remaining words are those of all.
pub record Sofar (all left : List (List ℕ)) (done : AttributeChange) : Type 0 where
  pub made : List BitStep
  pub whole : (more : List BitStep) → AreSteps left more → AreSteps all (made ++ more)
  pub makes : Makes done (steps_bit made)
  pub known : All IsStep all → All IsStep left

sofar_first : (all : List (List ℕ)) (done : AttributeChange) → done.clear ≡ 0 → done.set ≡ 0 → Sofar all all done
sofar_first all done clear set = record {
  made = [];
  whole = λ more are. are;
  makes = λ k b within. pick_other (bit_at done.set k) (bit_at done.clear k) b (ap (λ (n : ℕ). bit_at n k) set ∙ bit_at-zero k) (ap (λ (n : ℕ). bit_at n k) clear ∙ bit_at-zero k);
  known = λ h. h;
}

one_more : (made : List BitStep) (step : BitStep) (k b : ℕ) → steps_bit (made ++ step ∷ []) k b ≡ step_bit step k (steps_bit made k b)
one_more [] step k b = refl
one_more (s ∷ made) step k b = one_more made step k (step_bit s k b)

sofar_next : (all : List (List ℕ)) (x : List ℕ) (xs : List (List ℕ)) (done change after : AttributeChange) → Sofar all (x ∷ xs) done → MakesStep x change
    → ((k b : ℕ) → k < 64 → bit_after after k b ≡ bit_after change k (bit_after done k b)) → Sofar all xs after
sofar_next all x xs done change after sofar (step, said, makes) both = record {
  made = sofar.made ++ step ∷ [];
  whole = λ more are. subst (AreSteps all) (sym (append_assoc sofar.made (step ∷ []) more)) (sofar.whole (step ∷ more) (said, are));
  makes = λ k b within. both k b within ∙ (makes k (bit_after done k b) within ∙ (ap (step_bit step k) (sofar.makes k b within) ∙ sym (one_more sofar.made step k b)));
  known = λ h. All-tail IsStep x xs (sofar.known h);
}

sofar_all : (text : List ℕ) (all : List (List ℕ)) (done : AttributeChange) → Sofar all [] done → (steps : List BitStep) × AreSteps all steps × Makes done (steps_bit steps)
sofar_all text all done sofar = (sofar.made, subst (AreSteps all) (append-nil sofar.made) (sofar.whole [] tt), sofar.makes)

-- The iterator returns the remaining words.
pub record Follows {S A : Type 0} (steps : S → Option A → S → Type 0) (v : A → List ℕ) (all : List (List ℕ)) (s : S) (done : AttributeChange) : Type 0 where
  pub left : List (List ℕ)
  pub comes : YieldsList steps v s left
  pub sofar : Sofar all left done

module _ {S A : Type 0} (steps : S → Option A → S → Type 0) (v : A → List ℕ) (all : List (List ℕ)) where
  pub follows_first : (s : S) (done : AttributeChange) → YieldsList steps v s all → done.clear ≡ 0 → done.set ≡ 0 → Follows steps v all s done
  follows_first s done comes clear set = record { left = all; comes = comes; sofar = sofar_first all done clear set }

  pub follows_next : (s t : S) (x : A) (done change after : AttributeChange) → Follows steps v all s done → steps s (Some x) t → MakesStep (v x) change
      → ((k b : ℕ) → k < 64 → bit_after after k b ≡ bit_after change k (bit_after done k b)) → Follows steps v all t after
  follows_next s t x done change after follows step said both =
      let cut = next_of steps v SaysBit all s t x follows.left follows.comes step in
      record {
        left = cut.0;
        comes = cut.2;
        sofar = sofar_next all (v x) cut.0 done change after (subst (λ left. Sofar all left done) cut.1 follows.sofar) said both;
      }

  pub follows_all : (s t : S) (done : AttributeChange) → Follows steps v all s done → steps s None t → (made : List BitStep) × AreSteps all made × Makes done (steps_bit made)
  follows_all s t done follows step =
      sofar_all [] all done (subst (λ left. Sofar all left done) (end_of steps v SaysBit all s t follows.left follows.comes step) follows.sofar)

  pub follows_wrong : (s t : S) (x : A) (done : AttributeChange) → Follows steps v all s done → steps s (Some x) t → ¬ (IsStep (v x)) → ¬ (All IsStep all)
  follows_wrong s t x done follows step wrong =
      let cut = next_of steps v SaysBit all s t x follows.left follows.comes step in
      λ h. wrong (All-head IsStep (v x) cut.0 ((subst (λ left. Sofar all left done) cut.1 follows.sofar).known h))
