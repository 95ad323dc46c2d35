use Rattle.gptman.proofs.ReadKept.{edit_lists_keep_places}
use Rattle.gptman.proofs.table.laws.edit_lists_keep_places.Goals as goal

pub returns : goal.returns
returns c = edit_lists_keep_places
