use Rattle.std.proofs.Common.{rules}
use Rattle.gptman_disk.proofs.disk.file.FileDiskDisk.read_exact.Goals as goal

pub returns-clause-within : goal.returns-clause-within
returns-clause-within c = search rules
