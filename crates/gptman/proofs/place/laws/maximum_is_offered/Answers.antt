use Rattle.gptman.proofs.Placing.{offered}
use Rattle.gptman.proofs.place.laws.maximum_is_offered.Goals as goal

pub returns : goal.returns
returns c = offered
