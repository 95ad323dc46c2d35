use Rattle.std.proofs.Common.{rules}
use Rattle.gptman.proofs.table.iter.IterMutIterator.next.Goals as goal

pub returns-clause-steps : goal.returns-clause-steps
returns-clause-steps c = search rules
