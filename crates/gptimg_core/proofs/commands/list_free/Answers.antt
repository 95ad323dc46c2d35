use Rattle.std.proofs.Common.{rules}
use Rattle.gptimg_core.proofs.commands.list_free.Goals as goal

pub returns-clause-slots : goal.returns-clause-slots
returns-clause-slots g c = search rules
