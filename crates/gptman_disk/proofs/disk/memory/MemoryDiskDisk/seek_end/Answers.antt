use Rattle.std.proofs.Common.{rules}
use Rattle.gptman_disk.proofs.disk.memory.MemoryDiskDisk.seek_end.Goals as goal

pub returns-clause-answer : goal.returns-clause-answer
returns-clause-answer c = search rules
