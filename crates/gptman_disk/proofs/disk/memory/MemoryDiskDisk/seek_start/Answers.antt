use Rattle.std.proofs.Common.{rules}
use Rattle.gptman_disk.proofs.disk.memory.MemoryDiskDisk.seek_start.Goals as goal

pub returns-clause-answer : goal.returns-clause-answer
returns-clause-answer c = search rules

pub returns-clause-served : goal.returns-clause-served
returns-clause-served c = search rules
