use Rattle.std.proofs.Common.{◌<◌, length, arith, subst, sym, EachIndex, slice_index}
use Rattle.std.specs.Int.{IsInRange}
use Rattle.std.proofs.lemmas.Str.Parse.{numerals_by_value, tells_by_index}
use Rattle.gptedit_values.proofs.amount.is_whole.Goals as goal

pub returns-then-not-is_empty : goal.returns-then-not-is_empty
returns-then-not-is_empty c =
    let own = numerals_by_value _ tells_by_index in
    let some : 0 < length c.args.text.now = grind arith in (
      (λ each. (some, own.to c.args.text.now (subst (λ ds. EachIndex ds (λ k. IsInRange 48 57 (slice_index ds k))) c.as_bytes.ensures.value (c.are_digits.ensures.0 each)))),
      λ numeral. c.are_digits.ensures.1 (subst (λ ds. EachIndex ds (λ k. IsInRange 48 57 (slice_index ds k))) (sym c.as_bytes.ensures.value) (own.from c.args.text.now numeral.1)),
    )
