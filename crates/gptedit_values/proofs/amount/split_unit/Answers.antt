use Rattle.gptedit_values.proofs.amount.split_unit.Goals as goal

pub returns-clause-unknown : goal.returns-clause-unknown
returns-clause-unknown c = λ none number unit numeral has. c.unit_before.ensures.unknown none number has.0 unit numeral has.1 has.2
