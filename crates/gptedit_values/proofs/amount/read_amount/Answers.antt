use Rattle.std.proofs.Common.{refl, ◌*◌}
use Rattle.std.specs.Str.Parse.{digits_value}
use Rattle.gptedit_core.specs.declared.amount.Amount.TheVariants.{Bytes, Sectors}
use Rattle.gptedit_values.proofs.Amounts.{reads_it, reads_none}
use Rattle.gptedit_values.proofs.amount.read_amount.Goals as goal

pub returns-in-Some-clause-read : goal.returns-in-Some-clause-read
returns-in-Some-clause-read c =
    reads_it c.args.text.now c.read_sectors.result (Sectors (digits_value 10 c.in-Some.number.now))
    (c.in-Some.number.now, c.in-Some.ensures.1, c.in-Some.ensures.0, refl) c.read_sectors.ensures

pub returns-in-Some-split_unit-clause-read : goal.returns-in-Some-split_unit-clause-read
returns-in-Some-split_unit-clause-read c =
    reads_it c.args.text.now c.read_bytes.result (Bytes (digits_value 10 c.in-Some-split_unit.number.now * c.in-Some-split_unit.unit))
    (c.in-Some-split_unit.number.now, c.in-Some-split_unit.unit, c.in-Some-split_unit.ensures.found.1, c.in-Some-split_unit.ensures.found.0, refl) c.read_bytes.ensures

pub returns-in-None-split_unit-clause-read : goal.returns-in-None-split_unit-clause-read
returns-in-None-split_unit-clause-read c = reads_none c.args.text.now _ c.in-None.ensures (c.in-None-split_unit.ensures.unknown refl)
