use Rattle.std.proofs.Common.{rules}
use Rattle.gptman_disk.proofs.disk.memory.MemoryDiskDisk.read_exact.Goals as goal

pub returns-then-passes_end-clause-past_end : goal.returns-then-passes_end-clause-past_end
returns-then-passes_end-clause-past_end c = search rules
