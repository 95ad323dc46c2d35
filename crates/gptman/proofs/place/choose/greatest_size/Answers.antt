use Rattle.std.proofs.Common.{rules}
use Rattle.gptman.proofs.place.choose.greatest_size.Goals as goal

pub returns : goal.returns
returns c = search rules
