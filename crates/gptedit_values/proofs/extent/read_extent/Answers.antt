use Rattle.std.proofs.Common.{arith, refl, rules}
use Rattle.gptedit_values.proofs.Extents.{no_count, no_unit, too_large}
use Rattle.gptedit_values.proofs.extent.read_extent.Goals as goal

pub returns-in-Some-checked_mul-clause-said : goal.returns-in-Some-checked_mul-clause-said
returns-in-Some-checked_mul-clause-said c = (
  c.in-None.ensures.refused refl,
  (
    c.in-Some-split_unit.number.now,
    c.in-Some-split_unit.unit,
    c.in_ok-read_number-in-Some-split_unit.field-0,
    c.in-Some-split_unit.ensures.found,
    c.in_ok-read_number-in-Some-split_unit.ensures.said,
    search rules,
  ),
)

pub returns-in_err-read_number-in-Some-split_unit-clause-refused : goal.returns-in_err-read_number-in-Some-split_unit-clause-refused
returns-in_err-read_number-in-Some-split_unit-clause-refused c =
    λ _. no_count c.args.text.now c.in-Some-split_unit.number.now c.in-Some-split_unit.unit (c.in-None.ensures.refused refl)
    c.in-Some-split_unit.ensures.found (c.in_err-read_number-in-Some-split_unit.ensures.refused refl)

pub returns-in-None-checked_mul-clause-refused : goal.returns-in-None-checked_mul-clause-refused
returns-in-None-checked_mul-clause-refused c =
    λ _. too_large c.args.text.now c.in-Some-split_unit.number.now c.in-Some-split_unit.unit c.in_ok-read_number-in-Some-split_unit.field-0
    (c.in-None.ensures.refused refl) c.in-Some-split_unit.ensures.found c.in_ok-read_number-in-Some-split_unit.ensures.said (omega (arith, c.in-None-checked_mul.ensures))

pub returns-in-None-split_unit-clause-refused : goal.returns-in-None-split_unit-clause-refused
returns-in-None-split_unit-clause-refused c = λ _. no_unit c.args.text.now (c.in-None.ensures.refused refl) (c.in-None-split_unit.ensures.unknown refl)
