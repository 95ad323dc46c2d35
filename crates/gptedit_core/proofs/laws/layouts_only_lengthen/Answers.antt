use Rattle.gptedit_core.proofs.Lengthened.{only_lengthen}
use Rattle.gptedit_core.proofs.laws.layouts_only_lengthen.Goals as goal

pub returns : goal.returns
returns c = only_lengthen
