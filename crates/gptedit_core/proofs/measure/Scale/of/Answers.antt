use Rattle.std.proofs.Common.{rules, refl, arith, ◌+◌}
use Rattle.gptedit_core.specs.Measuring.RefusesScale.{no_first, no_end}
use Rattle.gptedit_core.proofs.measure.Scale.of.Goals as goal

pub returns-in_default-clause-refused : goal.returns-in_default-clause-refused
returns-in_default-clause-refused c =
    no_first c.in-Some.sectors (c.args.table.now.header.first_usable_lba + c.skip.result) (search rules) (omega arith) c.skip.ensures (search rules) refl

pub returns-in_default-checked_add-clause-refused : goal.returns-in_default-checked_add-clause-refused
returns-in_default-checked_add-clause-refused c = no_end c.in-Some.sectors (search rules) (omega arith) (search rules) refl
