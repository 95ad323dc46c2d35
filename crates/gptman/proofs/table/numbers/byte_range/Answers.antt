use Rattle.std.proofs.Common.{rules}
use Rattle.gptman.proofs.table.numbers.byte_range.Goals as goal

pub returns-then-last : goal.returns-then-last
returns-then-last c = search rules

pub returns-else-last : goal.returns-else-last
returns-else-last c = search rules
