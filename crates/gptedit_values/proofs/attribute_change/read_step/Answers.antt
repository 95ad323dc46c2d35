use Rattle.std.proofs.Common.{arith}
use Rattle.std.specs.Prelude.{None, Some}
use Rattle.std.proofs.lemmas.Result.{err_from_is_err_and}
use Rattle.std.proofs.lemmas.Str.Pattern.{strip_prefix_char}
use Rattle.gptedit_values.proofs.Steps.{minus_made, not_minus, not_plus, not_step, plus_made}
use Rattle.gptedit_values.proofs.attribute_change.read_step.Goals as goal

pub returns-in_err-bit-clause-refused : goal.returns-in_err-bit-clause-refused
returns-in_err-bit-clause-refused c =
    let p = err_from_is_err_and c.from_residual.result c.from_residual.ensures.1 in
    let is = strip_prefix_char 43 c.args.word.now (Some c.in-Some.name) c.in-Some.ensures.cases (omega arith) in
    rw (p.1) (not_plus c.args.word.now c.in-Some.name.now is c.in_err-bit.ensures.refused)

pub returns-in-Some-clause-said : goal.returns-in-Some-clause-said
returns-in-Some-clause-said c =
    let is = strip_prefix_char 43 c.args.word.now (Some c.in-Some.name) c.in-Some.ensures.cases (omega arith) in
    plus_made c.args.word.now c.in-Some.name.now c.in_ok-bit.bit is c.in_ok-bit.ensures.said

pub returns-in_err-bit-2-clause-refused : goal.returns-in_err-bit-2-clause-refused
returns-in_err-bit-2-clause-refused c =
    let p = err_from_is_err_and c.from_residual-in_err-bit-2.result c.from_residual-in_err-bit-2.ensures.1 in
    let is = strip_prefix_char 45 c.args.word.now (Some c.in-Some-strip_prefix.name) c.in-Some-strip_prefix.ensures.cases (omega arith) in
    rw (p.1) (not_minus c.args.word.now c.in-Some-strip_prefix.name.now is c.in_err-bit-2.ensures.refused)

pub returns-in-Some-strip_prefix-clause-said : goal.returns-in-Some-strip_prefix-clause-said
returns-in-Some-strip_prefix-clause-said c =
    let is = strip_prefix_char 45 c.args.word.now (Some c.in-Some-strip_prefix.name) c.in-Some-strip_prefix.ensures.cases (omega arith) in
    minus_made c.args.word.now c.in-Some-strip_prefix.name.now c.in_ok-bit-2.bit is c.in_ok-bit-2.ensures.said

pub returns-clause-refused : goal.returns-clause-refused
returns-clause-refused c =
    let plus = strip_prefix_char 43 c.args.word.now None c.in_default.ensures.cases (omega arith) in
    let minus = strip_prefix_char 45 c.args.word.now None c.in_default-strip_prefix.ensures.cases (omega arith) in
    not_step c.args.word.now c.read_field.result plus minus c.read_field.ensures.refused
