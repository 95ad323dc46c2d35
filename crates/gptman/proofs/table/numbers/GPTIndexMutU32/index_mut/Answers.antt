use Rattle.std.proofs.Common.{rules}
use Rattle.gptman.proofs.table.numbers.GPTIndexMutU32.index_mut.Goals as goal

pub returns : goal.returns
returns c = search rules
