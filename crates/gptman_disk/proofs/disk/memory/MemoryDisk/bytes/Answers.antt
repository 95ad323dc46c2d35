use Rattle.std.proofs.Common.{rules}
use Rattle.gptman_disk.proofs.disk.memory.MemoryDisk.bytes.Goals as goal

pub returns : goal.returns
returns c = search rules
