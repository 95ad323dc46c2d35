use Rattle.std.proofs.Common.{refl}
use Rattle.gptedit_values.proofs.Steps.{makes_exactly}
use Rattle.gptedit_values.proofs.attribute_change.exactly.Goals as goal

pub returns : goal.returns
returns c = makes_exactly 18446744073709551615 c.args.attributes refl
