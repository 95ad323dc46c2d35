use Rattle.std.proofs.Common.{rules}
use Rattle.gptman.proofs.table.GPT.write_bootable_protective_mbr_into.Goals as goal

pub returns-clause-contents : goal.returns-clause-contents
returns-clause-contents g c = search rules
