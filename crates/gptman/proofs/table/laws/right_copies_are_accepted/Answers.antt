use Rattle.gptman.proofs.CopyThere.{accepts_right_copies}
use Rattle.gptman.proofs.table.laws.right_copies_are_accepted.Goals as goal

pub returns : goal.returns
returns c = accepts_right_copies
