use Rattle.std.proofs.Common.{sym, ◌∙◌}
use Rattle.std.specs.Prelude.{None, Some}
use Rattle.std.proofs.lemmas.Bool.{false≢true}
use Rattle.gptedit_values.proofs.Measures.{split_digits}
use Rattle.gptedit_values.proofs.measure.split_point.Goals as goal

pub returns-else-is_whole : goal.returns-else-is_whole
returns-else-is_whole c =
    λ front back numeral is.
    let whole = split_digits c.args.text.now (Some (c.in-Some.whole, c.in-Some.rest)) c.in-Some.ensures.cases front back numeral is in
    false≢true (sym c.if-is_whole.false ∙ c.is_whole.ensures.1 whole)

pub returns-in-None : goal.returns-in-None
returns-in-None c = λ front back numeral is. split_digits c.args.text.now None c.in-None.ensures.cases front back numeral is
