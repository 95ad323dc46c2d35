use Rattle.std.proofs.Common.{◌≡◌, ◌++◌, ℕ, List, arith, refl, rules}
use Rattle.gptedit_values.specs.Scripts.{script_units}
use Rattle.gptedit_values.proofs.Tables.{are_rows, each_of, lacks_first, lacks_next, lacks_rows}
use Rattle.gptedit_values.proofs.extent.split_unit.Goals as goal

pub loop-unit-init : goal.loop-unit-init
loop-unit-init c = record {
  names = are_rows _ _ _ _ ((1, omega arith, refl), ((3, omega arith, refl), ((5, omega arith, refl), ((7, omega arith, refl), ((9, omega arith, refl), ((11, omega arith, refl), tt))))));
  letters = are_rows _ _ _ _ ((0, omega arith, refl), ((2, omega arith, refl), ((4, omega arith, refl), ((6, omega arith, refl), ((8, omega arith, refl), ((10, omega arith, refl), tt))))));
  no_name = lacks_first _ _;
  no_letter = lacks_first _ _;
}

pub loop-unit-preserved : goal.loop-unit-preserved
loop-unit-preserved c = record {
  names = c.loop-unit.invariant.names;
  letters = c.loop-unit.invariant.letters;
  no_name = lacks_next _ _ _ _ _ c.loop-unit.invariant.no_name (omega arith) (λ (number, is). c.in_default.ensures.cases number is);
  no_letter = lacks_next _ _ _ _ _ c.loop-unit.invariant.no_letter (omega arith) (λ (number, is). c.in_default-strip_suffix.ensures.cases number is);
}

pub returns-in-Some-clause-found : goal.returns-in-Some-clause-found
returns-in-Some-clause-found c = (_, c.loop-unit.invariant.names.row c.loop-unit.unit-index _ (omega arith), search rules)

pub returns-in-Some-strip_suffix-clause-found : goal.returns-in-Some-strip_suffix-clause-found
returns-in-Some-strip_suffix-clause-found c = (_, c.loop-unit.invariant.letters.row c.loop-unit.unit-index _ (omega arith), search rules)

pub returns-clause-unknown : goal.returns-clause-unknown
returns-clause-unknown c =
    λ _ number unit has.
    let a = lacks_rows _ _ _ _ c.loop-unit.invariant.no_letter (omega arith) in
    let b = lacks_rows _ _ _ _ c.loop-unit.invariant.no_name (omega arith) in
    each_of (λ row. ¬ ((front : List ℕ) × (c.args.text.now ≡ front ++ row.0))) script_units
    (a.0, (b.0, (a.1.0, (b.1.0, (a.1.1.0, (b.1.1.0, (a.1.1.1.0, (b.1.1.1.0, (a.1.1.1.1.0, (b.1.1.1.1.0, (a.1.1.1.1.1.0, (b.1.1.1.1.1.0, tt))))))))))))
    (has.0, unit) has.1 (number, has.2)
