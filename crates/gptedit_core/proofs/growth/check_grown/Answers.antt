use Rattle.std.proofs.Common.{rules}
use Rattle.gptedit_core.proofs.growth.check_grown.Goals as goal

pub check-requires : goal.check-requires
check-requires c = c.has_layout.ensures.0 (search rules)
