use Rattle.std.proofs.Common.{refl}
use Rattle.gptedit_values.proofs.Measures.{none_fraction, reads_binary, reads_decimal, reads_share}
use Rattle.gptedit_values.proofs.measure.read_fraction.Goals as goal

pub returns-in-Some : goal.returns-in-Some
returns-in-Some c =
    let reads = reads_share c.args.whole.now c.in-Some.tail.now c.args.rest.now c.share_with.result c.requires c.in-Some.ensures.0 c.in-Some.ensures.1 c.share_with.ensures in
    record { said = reads.0; read = reads.1 }

pub returns-in-Some-binary_unit : goal.returns-in-Some-binary_unit
returns-in-Some-binary_unit c =
    let step = c.in-Some-binary_unit in
    let reads = reads_binary c.args.whole.now step.tail.now c.args.rest.now step.unit c.about_with.result c.requires step.ensures.found.0 step.ensures.found.1 c.about_with.ensures in
    record { said = reads.0; read = reads.1 }

pub returns-in-Some-decimal_unit : goal.returns-in-Some-decimal_unit
returns-in-Some-decimal_unit c =
    let step = c.in-Some-decimal_unit in
    let reads = reads_decimal c.args.whole.now step.tail.now c.args.rest.now step.unit c.about_with-in-Some-decimal_unit.result c.requires step.ensures.found.0 step.ensures.found.1 c.about_with-in-Some-decimal_unit.ensures in
    record { said = reads.0; read = reads.1 }

pub returns-in-None-clause-read : goal.returns-in-None-clause-read
returns-in-None-clause-read c =
    none_fraction c.args.whole.now c.args.rest.now _ c.requires c.in_default.ensures (c.in_default-binary_unit.ensures.unknown refl) (c.in-None.ensures.unknown refl)
