use Rattle.std.proofs.Common.{◌≡◌, ◌∙◌, ◌<◌, ◌^◌, ℕ, List, length, true, arith, rules}
use Rattle.std.proofs.lemmas.Bool.Decides.{nat_tests}
use Rattle.std.proofs.lemmas.Str.Parse.{IsNumeralModel, numerals_by_value, parse_digits}
use Rattle.std.specs.Prelude.{Result, Ok, Err}
use Rattle.std.specs.Char.{is_ascii_digit}
use Rattle.std.specs.List.{list_all}
use Rattle.std.specs.Result.{OkIff, result_ok}
use Rattle.std.specs.Str.Parse.{digits_value}
use Rattle.gptimg_core.specs.Words.{number_in}
use Rattle.gptimg_core.proofs.words.values.parse_number.Goals as goal

-- texts of digits, and their numbers
digits : IsNumeralModel (λ ds. list_all is_ascii_digit ds ≡ true) (digits_value 10)
digits = numerals_by_value _ (search rules)

found : {E : Type 0} (text : List ℕ) (r : Result ℕ E) → list_all is_ascii_digit text ≡ true
    → OkIff r ((0 < length text) × (digits_value 10 text < 2 ^ 64)) (digits_value 10 text) → result_ok r ≡ number_in text
found text (Ok x) all is = grind (arith, nat_tests)
found text (Err e) all not = grind (arith, nat_tests)

pub returns : goal.returns
returns c =
    c.ok.ensures.value ∙ found c.args.text.now c.parse.result (search rules)
    (parse_digits digits 64 c.args.text.now c.parse.result c.parse.ensures.value.0 (search rules))
