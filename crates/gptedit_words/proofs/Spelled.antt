-- The findings of `clap` in a command line, and why it is refused.
use Rattle.std.proofs.Common.{◌≡◌, ℕ, List, ap, refl, sym, subst, ⊎_elim, inl, inr}
use Rattle.std.specs.Prelude.{◌≢◌, Option, Some, None, Result, Ok, Err, IfErr, IsErrAnd, codes, option_map, unwrap_or}
use Rattle.std.proofs.lemmas.Option.{none-some}
use Rattle.clap.specs.Words.{fault_of, HasKind}
use Rattle.clap.specs.declared.error.Error.{Error}
use Rattle.clap.specs.declared.parser.matches.Found.{Found}
use Rattle.gptedit_words.specs.Line.{line}
use Rattle.gptedit_words.specs.Refusals.{CanAsk, RefusedOnlyFor}
use Rattle.gptedit_words.specs.Spelled.{IsOfUsage, IsRefused, Names}
use Rattle.gptedit_words.specs.declared.error.WordsError.{WordsError}
use Rattle.gptedit_words.specs.declared.error.WordsError.TheVariants.{Conflict, LongName, Missing, NothingToSet, OutOfMemory, Sector, Usage, Value}

-- an error of `clap`
pub usage_is : (words : List (List ℕ)) (e : Error) (error : WordsError) → HasKind (fault_of line words) e → IsOfUsage e error → IsRefused words error
usage_is words e error kind of = ⊎_elim
    (λ memory. subst (λ (x : WordsError). IsRefused words x) (sym memory.1) tt)
    (λ usage. subst (λ (x : WordsError). IsRefused words x) (sym usage.1) (inl (⊎_elim (λ memory. absurd (usage.0 memory)) (λ among. among) kind))) of

-- a command's own arguments
pub wrong_is : {A : Type 0} (words : List (List ℕ)) (name : List ℕ) (found : Found) (r : Result A WordsError) → Names words name found
    → RefusedOnlyFor found ((name ≢ codes "types") × ¬ (CanAsk name found)) r → IfErr r (IsRefused words)
wrong_is words name found (Ok value) named reason = tt
wrong_is words name found (Err OutOfMemory) named reason = tt
wrong_is words name found (Err (Usage error)) named reason = inr (record { name = name; found = found; named = named; reason = reason })
wrong_is words name found (Err (Missing word)) named reason = inr (record { name = name; found = found; named = named; reason = reason })
wrong_is words name found (Err (LongName text)) named reason = record { name = name; found = found; named = named; reason = reason }
wrong_is words name found (Err (Value word text wrong)) named reason = record { name = name; found = found; named = named; reason = reason }
wrong_is words name found (Err (Sector text)) named reason = record { name = name; found = found; named = named; reason = reason }
wrong_is words name found (Err NothingToSet) named reason = record { name = name; found = found; named = named; reason = reason }
wrong_is words name found (Err (Conflict one other)) named reason = record { name = name; found = found; named = named; reason = reason }

-- a command is found, by its name and its arguments
pub met : {A B C : Type 0} (o : Option A) (f : A → B) (g : A → C) (x : B) (y : C) → Some x ≡ option_map f o
    → Some y ≡ option_map (λ (p : B × C). p.1) (option_map {U = B × C} (λ (a : A). (f a, g a)) o) → option_map {U = B × C} (λ (a : A). (f a, g a)) o ≡ Some (x, y)
met None f g x y name found = absurd (none-some x (sym name))
met (Some a) f g x y name found =
    let left : x ≡ f a = ap (λ (o : Option _). unwrap_or o x) name in
    let right : y ≡ g a = ap (λ (o : Option _). unwrap_or o y) found in
    rw (left, right) refl

-- no command is found
pub not_met : {B C : Type 0} (o : Option (B × C)) → None ≡ option_map (λ (p : B × C). p.1) o → o ≡ None
not_met None found = refl
not_met (Some p) found = absurd (none-some p.1 found)

-- a weaker fact about an error
pub if_err_and : {T E : Type 0} (r : Result T E) (P Q : E → Type 0) → ((e : E) → P e → Q e) → IsErrAnd r P → IfErr r Q
if_err_and (Ok x) P Q then h = tt
if_err_and (Err e) P Q then h = then e h
