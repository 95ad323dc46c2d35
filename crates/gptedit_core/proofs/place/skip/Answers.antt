use Rattle.std.proofs.Common.{arith}
use Rattle.gptman.proofs.Multiples.{first_later}
use Rattle.gptedit_core.proofs.place.skip.Goals as goal

pub returns-in_default : goal.returns-in_default
returns-in_default c = first_later c.args.align c.args.sector c.requires (omega arith)
