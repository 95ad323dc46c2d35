use Rattle.std.proofs.Common.{rules}
use Rattle.gptman.proofs.table.numbers.is_at.Goals as goal

pub returns-then-entry-sector : goal.returns-then-entry-sector
returns-then-entry-sector c = search rules

pub returns-else-entry-sector : goal.returns-else-entry-sector
returns-else-entry-sector c = search rules
