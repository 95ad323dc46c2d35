use Rattle.std.proofs.Common.{rules}
use Rattle.gptman.proofs.copies.are_same.Goals as goal

pub returns-in-Ok-Ok : goal.returns-in-Ok-Ok
returns-in-Ok-Ok c = search rules
