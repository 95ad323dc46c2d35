use Rattle.gptman.proofs.ReadingLaw.{reads_one_of}
use Rattle.gptman.proofs.table.laws.what_is_held_is_read.Goals as goal

pub returns : goal.returns
returns c = reads_one_of
