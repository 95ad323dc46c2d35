use Rattle.std.proofs.Common.{rules}
use Rattle.gptman_disk.proofs.disk.memory.MemoryDisk.with_fuse.Goals as goal

pub returns-clause-fuse : goal.returns-clause-fuse
returns-clause-fuse c = search rules
