use Rattle.std.proofs.Common.{rules}
use Rattle.gptedit_core.proofs.Counts.{too_far}
use Rattle.gptedit_core.proofs.measure.Scale.after_start.Goals as goal

pub returns-in-None-clause-refused : goal.returns-in-None-clause-refused
returns-in-None-clause-refused c =
    too_far c.args.self c.args.measure c.in-Share.field-0 c.in_ok-length.length c.in-Share.is c.in_ok-length.ensures.ok (search rules)
