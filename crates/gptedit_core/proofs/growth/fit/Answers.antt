use Rattle.gptman.proofs.Readers.{both_read}
use Rattle.gptedit_core.proofs.growth.fit.Goals as goal

pub returns-in_err-update_from-clause-reads : goal.returns-in_err-update_from-clause-reads
returns-in_err-update_from-clause-reads g c = both_read c.seek_end.ensures.reads c.update_from.ensures.reads

pub returns-clause-reads : goal.returns-clause-reads
returns-clause-reads g c = both_read c.seek_end.ensures.reads c.update_from.ensures.reads
