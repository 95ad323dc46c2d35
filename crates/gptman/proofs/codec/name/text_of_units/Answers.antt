use Rattle.std.proofs.Common.{◌≡◌, ◌∙◌, sym, ap, length}
use Rattle.std.specs.Prelude.{encode_utf8_all}
use Rattle.std.proofs.lemmas.Bool.{eqb-true}
use Rattle.gptman.proofs.NameText.{none_of_none, some_of_some}
use Rattle.gptman.proofs.codec.name.text_of_units.Goals as goal

pub returns-then-is_empty-clause-ok : goal.returns-then-is_empty-clause-ok
returns-then-is_empty-clause-ok c =
    let none : length c.args.units.now ≡ 0 = eqb-true (length c.args.units.now) 0 (sym c.is_empty.ensures ∙ c.if-is_empty.true) in
    c.new.ensures.bytes ∙ sym (ap encode_utf8_all (none_of_none c.args.units.now none))

pub returns-clause-ok : goal.returns-clause-ok
returns-clause-ok c = c.from_utf16_lossy.ensures

pub returns-clause-empty : goal.returns-clause-empty
returns-clause-empty c = λ none. absurd (some_of_some c.args.units.now (sym c.is_empty.ensures ∙ c.if-is_empty.false) none)
