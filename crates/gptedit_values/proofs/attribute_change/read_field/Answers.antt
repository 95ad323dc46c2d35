use Rattle.std.proofs.Common.{rules, ◌≡◌, ◌++◌, arith, refl}
use Rattle.std.specs.Prelude.{codes}
use Rattle.gptedit_values.proofs.Steps.{field_made}
use Rattle.gptedit_values.proofs.attribute_change.read_field.Goals as goal

pub returns-in-Some-clause-said : goal.returns-in-Some-clause-said
returns-in-Some-clause-said c =
    let is : c.args.word.now ≡ codes "priority=" ++ c.in-Some.digits.now = search rules in
    field_made c.args.word.now (codes "priority=") c.in-Some.digits.now 48 4 c.read_bits.result (0, omega arith, refl) is c.read_bits.ensures.said

pub returns-in-Some-strip_prefix-clause-said : goal.returns-in-Some-strip_prefix-clause-said
returns-in-Some-strip_prefix-clause-said c =
    let is : c.args.word.now ≡ codes "tries=" ++ c.in-Some-strip_prefix.digits.now = search rules in
    field_made c.args.word.now (codes "tries=") c.in-Some-strip_prefix.digits.now 52 4 c.read_bits-in-Some-strip_prefix.result (1, omega arith, refl) is c.read_bits-in-Some-strip_prefix.ensures.said

pub returns-in-Some-strip_prefix-2-clause-said : goal.returns-in-Some-strip_prefix-2-clause-said
returns-in-Some-strip_prefix-2-clause-said c =
    let is : c.args.word.now ≡ codes "successful=" ++ c.in-Some-strip_prefix-2.digits.now = search rules in
    field_made c.args.word.now (codes "successful=") c.in-Some-strip_prefix-2.digits.now 56 1 c.read_bits-in-Some-strip_prefix-2.result (2, omega arith, refl) is c.read_bits-in-Some-strip_prefix-2.ensures.said
