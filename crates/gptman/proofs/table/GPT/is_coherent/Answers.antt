use Rattle.std.proofs.Common.{rules}
use Rattle.gptman.proofs.table.GPT.is_coherent.Goals as goal

pub returns-then-header-eq-ENTRY_SIZE : goal.returns-then-header-eq-ENTRY_SIZE
returns-then-header-eq-ENTRY_SIZE c = search rules

pub returns-else-header-eq-ENTRY_SIZE : goal.returns-else-header-eq-ENTRY_SIZE
returns-else-header-eq-ENTRY_SIZE c = search rules

pub returns-else-count-header : goal.returns-else-count-header
returns-else-count-header c = search rules
