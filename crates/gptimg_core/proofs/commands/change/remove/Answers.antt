use Rattle.std.proofs.Common.{rules}
use Rattle.gptimg_core.proofs.commands.change.remove.Goals as goal

pub returns-clause-value : goal.returns-clause-value
returns-clause-value c = search rules
