use Rattle.std.proofs.Common.{[]}
use Rattle.gptman_disk.proofs.PassedOn.{writes_over}
use Rattle.gptman_disk.proofs.disk.faulty.FaultyDiskDisk.sync.Goals as goal

pub returns-clause-wrote : goal.returns-clause-wrote
returns-clause-wrote c = writes_over c.args.self.now.failures c.args.self.now.failures [] c.sync.ensures.wrote
