use Rattle.gptman_disk.proofs.Ranges.{still_pending}
use Rattle.gptman.proofs.header.write.write_block.Goals as goal

pub returns-clause-still_pending : goal.returns-clause-still_pending
returns-clause-still_pending g c = λ honest. still_pending c.write_all.result _ _ _ (c.write_all.ensures.contents honest) (c.write_all.ensures.failed honest)
