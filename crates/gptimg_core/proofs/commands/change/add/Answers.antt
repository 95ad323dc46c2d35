use Rattle.std.proofs.Common.{rules}
use Rattle.gptimg_core.proofs.commands.change.add.Goals as goal

pub returns-clause-value : goal.returns-clause-value
returns-clause-value c = search rules

pub returns-clause-outcome : goal.returns-clause-outcome
returns-clause-outcome c = search rules

pub returns-then-not-has_unused-clause-refused : goal.returns-then-not-has_unused-clause-refused
returns-then-not-has_unused-clause-refused c = search rules
