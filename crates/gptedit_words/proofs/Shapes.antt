-- The `clap` command line is the defined one.
use Rattle.std.proofs.Common.{◌≡◌, ◌∙◌, ◌++◌, ◌∷◌, [], ℕ, Bool, true, false, List, ap, refl, sym, ⊎_elim}
use Rattle.std.specs.Prelude.{◌≢◌, ◌&&◌, not, Option, Some, None, MatchOption, if◌then◌else◌, option_and_then, unwrap_or}
use Rattle.std.specs.Borrow.{Bor}
use Rattle.std.specs.Str.Pattern.{FindsTextPrefix, StripsPrefix}
use Rattle.std.proofs.lemmas.Bool.Decides.{eqb_tells}
use Rattle.std.proofs.lemmas.List.{append_assoc, append-nil}
use Rattle.clap.specs.Lexer.{strip_byte}
use Rattle.clap.specs.Words.{App, Rule, Text, new_app}
use Rattle.clap.proofs.OnLiterals.{clap_on_literals}
use Rattle.clap.specs.Words.{is_simple_and_free}
use Rattle.gptedit_words.specs.Definitions.{with_rules}
use Rattle.gptedit_words.specs.Line.{line, long_word, with_words}

-- text without two leading hyphens
strip_second : (x : ℕ) (xs : Text) → x ≡ 45 → ((rest : Text) → x ∷ xs ≢ 45 ∷ 45 ∷ rest) → strip_byte 45 xs ≡ None
strip_second x [] first lacks = refl
strip_second x (y ∷ ys) first lacks =
    ⊎_elim (λ same. absurd (lacks ys (rw (first, same.1) refl))) (λ other. ap (λ (b : Bool). if b then Some ys else None) other.0) (eqb_tells y 45)

strip_twice : (word : Text) → ((rest : Text) → word ≢ 45 ∷ 45 ∷ rest) → option_and_then (strip_byte 45) (strip_byte 45 word) ≡ None
strip_twice [] lacks = refl
strip_twice (x ∷ xs) lacks =
    ⊎_elim (λ same. ap (λ (b : Bool). option_and_then (strip_byte 45) (if b then Some xs else None)) same.0 ∙ strip_second x xs same.1 lacks)
    (λ other. ap (λ (b : Bool). option_and_then (strip_byte 45) (if b then Some xs else None)) other.0) (eqb_tells x 45)

-- the result of `strip_prefix`, or else the text
pub long_word_is : (o : Option (Bor Text)) (word : Bor Text)
    → MatchOption o (FindsTextPrefix (45 ∷ 45 ∷ []) word.now None) (λ x. StripsPrefix (FindsTextPrefix (45 ∷ 45 ∷ [])) word.now x.now)
    → (unwrap_or o word).now ≡ long_word word.now
unfolding long_word
long_word_is None word lacks = sym (ap (λ (o : Option Text). unwrap_or o word.now) (strip_twice word.now lacks))
long_word_is (Some x) word strips = strips.2 ∙ sym (ap long_word strips.1.1)

-- the rules of a command after adding arguments
abbrev with_more : App → List Rule → App
with_more app rules = record app { top = record app.top { rules = app.top.rules ++ rules } }

rules_more : (app : App) (rules : List Rule) → with_rules app rules ≡ with_more app rules
rules_more app [] = ap (λ (rules : List Rule). record app { top = record app.top { rules = rules } }) (sym (append-nil app.top.rules))
rules_more app (rule ∷ rules) = rules_more (with_more app (rule ∷ [])) rules
    ∙ ap (λ (all : List Rule). record app { top = record app.top { rules = all } }) (append_assoc app.top.rules (rule ∷ []) rules)

-- a command with its own arguments, then the shared ones
pub shape_made : (name : Text) (own shared : List Rule) → (with_rules (with_rules (new_app name) own) shared).top ≡ with_words name (own ++ shared)
shape_made name own shared = ap (λ (app : App). app.top) (rules_more (with_rules (new_app name) own) shared
    ∙ ap (λ (app : App). with_more app shared) (rules_more (new_app name) own))

-- the third of several tests that all hold, where the second and third are negations
pub third_not : (a b c rest : Bool) → (a && (not b && (not c && rest))) ≡ true → c ≡ false
third_not a b false rest all = refl
third_not true false true rest all = sym all
third_not true true true rest all = sym all
third_not false b true rest all = sym all

-- the faults and the matches of the command line are known
pub line_is_free : is_simple_and_free line ≡ true
unfolding line long_word clap_on_literals
line_is_free = refl
