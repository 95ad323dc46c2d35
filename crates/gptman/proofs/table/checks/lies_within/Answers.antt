use Rattle.std.proofs.Common.{rules}
use Rattle.gptman.proofs.table.checks.lies_within.Goals as goal

pub returns-then-header-entry : goal.returns-then-header-entry
returns-then-header-entry c = search rules

pub returns-else-header-entry : goal.returns-else-header-entry
returns-else-header-entry c = search rules
