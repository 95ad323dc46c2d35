use Rattle.std.proofs.Common.{◌<◌, ◌^◌, arith, subst}
use Rattle.std.specs.Str.Parse.{digits_value}
use Rattle.std.proofs.lemmas.Nat.{one_shl}
use Rattle.std.proofs.lemmas.Result.{OkIff-at_ok}
use Rattle.gptedit_values.proofs.Steps.{makes_bits}
use Rattle.gptedit_values.proofs.attribute_change.read_bits.Goals as goal

pub returns-clause-said : goal.returns-clause-said
returns-clause-said c =
    let read = OkIff-at_ok c.read_below.result _ (digits_value 10 c.args.digits.now) c.in_ok-value.value c.read_below.ensures c.in_ok-value.was in
    let fits : digits_value 10 c.args.digits.now < 2 ^ c.args.width =
    subst (λ limit. digits_value 10 c.args.digits.now < limit) (one_shl c.args.width 64 (omega (arith, c.requires))) read.0.1 in
    ((read.0.0, fits), makes_bits c.args.first c.args.width c.in_ok-value.value (digits_value 10 c.args.digits.now) c.requires read.1 fits)
