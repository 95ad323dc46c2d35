use Rattle.std.proofs.Common.{rules}
use Rattle.gptman.proofs.table.GPT.write_protective_mbr_into.Goals as goal

pub returns-clause-contents : goal.returns-clause-contents
returns-clause-contents g c = search rules

pub returns-clause-untouched : goal.returns-clause-untouched
returns-clause-untouched g c = c.write_mbr.ensures.untouched

pub returns-clause-failed : goal.returns-clause-failed
returns-clause-failed g c = c.write_mbr.ensures.failed
