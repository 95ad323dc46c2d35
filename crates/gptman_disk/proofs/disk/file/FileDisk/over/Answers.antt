use Rattle.std.proofs.Common.{rules}
use Rattle.gptman_disk.proofs.disk.file.FileDisk.over.Goals as goal

pub returns-clause-position : goal.returns-clause-position
returns-clause-position c = search rules
