use Rattle.gptman.proofs.Placing.{placement}
use Rattle.gptman.proofs.place.laws.placement_keeps_valid.Goals as goal

pub returns : goal.returns
returns c = placement
