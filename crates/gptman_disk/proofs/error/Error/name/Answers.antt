use Rattle.std.proofs.Common.{rules}
use Rattle.gptman_disk.proofs.error.Error.name.Goals as goal

pub returns-in-NoSpaceLeft : goal.returns-in-NoSpaceLeft
returns-in-NoSpaceLeft c = search rules
