-- The number of a name is found type by type.
use Rattle.std.proofs.Common.{◌≡◌, ◌∙◌, ◌++◌, ℕ, List, ◌∷◌, Option, None, Bool, true, false, refl, sym, ap, cond}
use Rattle.std.proofs.lemmas.List.Folds.{find-append}
use Rattle.std.specs.Prelude.{Some, find}
use Rattle.std.specs.Option.{option_map, option_or}
use Rattle.std.specs.Str.{bytes_eq, str_eq_ignore_ascii_case}
use Rattle.gptguid_core.specs.OtherTypes.{number_in_any_case}
use Rattle.gptguid_core.specs.Types.{number_in}

pub hit : (t : List ℕ × ℕ) (rest : List (List ℕ × ℕ)) (name : List ℕ) → true ≡ bytes_eq t.0 name → number_in (t ∷ rest) name ≡ Some t.1
hit t rest name same = ap (λ b. option_map (λ x. x.1) (cond b (Some t) (find (λ x. bytes_eq x.0 name) rest))) (sym same)

pub miss : (t : List ℕ × ℕ) (rest : List (List ℕ × ℕ)) (name : List ℕ) → false ≡ bytes_eq t.0 name → number_in (t ∷ rest) name ≡ number_in rest name
miss t rest name other = ap (λ b. option_map (λ x. x.1) (cond b (Some t) (find (λ x. bytes_eq x.0 name) rest))) (sym other)

-- The same in any case.
pub hit_in_any_case : (t : List ℕ × ℕ) (rest : List (List ℕ × ℕ)) (name : List ℕ) → true ≡ str_eq_ignore_ascii_case t.0 name → number_in_any_case (t ∷ rest) name ≡ Some t.1
hit_in_any_case t rest name same = ap (λ b. option_map (λ x. x.1) (cond b (Some t) (find (λ x. str_eq_ignore_ascii_case x.0 name) rest))) (sym same)

pub miss_in_any_case : (t : List ℕ × ℕ) (rest : List (List ℕ × ℕ)) (name : List ℕ) → false ≡ str_eq_ignore_ascii_case t.0 name → number_in_any_case (t ∷ rest) name ≡ number_in_any_case rest name
miss_in_any_case t rest name other = ap (λ b. option_map (λ x. x.1) (cond b (Some t) (find (λ x. str_eq_ignore_ascii_case x.0 name) rest))) (sym other)

-- A name is found in the first of two lists, else in the second.
mapped_or : (a b : Option (List ℕ × ℕ)) → option_map (λ t. t.1) (option_or a b) ≡ option_or (option_map (λ t. t.1) a) (option_map (λ t. t.1) b)
mapped_or None b = refl
mapped_or (Some t) b = refl

in_both : (xs ys : List (List ℕ × ℕ)) (name : List ℕ) → number_in_any_case (xs ++ ys) name ≡ option_or (number_in_any_case xs name) (number_in_any_case ys name)
in_both xs ys name =
    let test : List ℕ × ℕ → Bool = λ t. str_eq_ignore_ascii_case t.0 name in
    ap (λ (o : Option (List ℕ × ℕ)). option_map (λ t. t.1) o) (find-append test xs ys) ∙ mapped_or (find test xs) (find test ys)

pub first_has : (ts xs ys : List (List ℕ × ℕ)) (name : List ℕ) (number : ℕ) → ts ≡ xs → Some number ≡ number_in_any_case ts name → Some number ≡ number_in_any_case (xs ++ ys) name
first_has ts xs ys name number is found =
    ap (λ (o : Option ℕ). option_or o (number_in_any_case ys name)) (found ∙ ap (λ l. number_in_any_case l name) is) ∙ sym (in_both xs ys name)

pub second_has : (ts us xs ys : List (List ℕ × ℕ)) (name : List ℕ) (o : Option ℕ) → ts ≡ xs → us ≡ ys → None ≡ number_in_any_case ts name → o ≡ number_in_any_case us name → o ≡ number_in_any_case (xs ++ ys) name
second_has ts us xs ys name o first second none found =
    found ∙ ap (λ l. number_in_any_case l name) second
    ∙ ap (λ (p : Option ℕ). option_or p (number_in_any_case ys name)) (none ∙ ap (λ l. number_in_any_case l name) first) ∙ sym (in_both xs ys name)
