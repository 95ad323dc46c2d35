use Rattle.gptman.proofs.ReadingLaw.{holds_what_is_read}
use Rattle.gptman.proofs.table.laws.what_is_read_is_held.Goals as goal

pub returns : goal.returns
returns c = holds_what_is_read
