use Rattle.std.proofs.Common.{refl}
use Rattle.gptedit_values.proofs.Measures.{none_whole, reads_about, reads_bytes, reads_percent, reads_sectors}
use Rattle.gptedit_values.proofs.measure.read_whole.Goals as goal

pub returns-in-Some : goal.returns-in-Some
returns-in-Some c =
    let reads = reads_sectors c.args.text.now c.in-Some.number.now c.sectors_of.result c.in-Some.ensures.0 c.in-Some.ensures.1 c.sectors_of.ensures in
    record { said = reads.0; read = reads.1 }

pub returns-in-Some-number_before : goal.returns-in-Some-number_before
returns-in-Some-number_before c =
    let step = c.in-Some-number_before in
    let reads = reads_percent c.args.text.now step.number.now c.share_of.result step.ensures.0 step.ensures.1 c.share_of.ensures in
    record { said = reads.0; read = reads.1 }

pub returns-in-Some-binary_unit : goal.returns-in-Some-binary_unit
returns-in-Some-binary_unit c =
    let step = c.in-Some-binary_unit in
    let reads = reads_bytes c.args.text.now step.number.now step.unit c.bytes_of.result step.ensures.found.0 step.ensures.found.1 c.bytes_of.ensures in
    record { said = reads.0; read = reads.1 }

pub returns-in-Some-decimal_unit : goal.returns-in-Some-decimal_unit
returns-in-Some-decimal_unit c =
    let step = c.in-Some-decimal_unit in
    let reads = reads_about c.args.text.now step.number.now step.unit c.about_of.result step.ensures.found.0 step.ensures.found.1 c.about_of.ensures in
    record { said = reads.0; read = reads.1 }

pub returns-in-None-clause-read : goal.returns-in-None-clause-read
returns-in-None-clause-read c =
    none_whole c.args.text.now _ c.requires c.in_default.ensures c.in_default-number_before.ensures (c.in_default-binary_unit.ensures.unknown refl) (c.in-None.ensures.unknown refl)
