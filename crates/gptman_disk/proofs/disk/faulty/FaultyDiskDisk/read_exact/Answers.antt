use Rattle.gptman_disk.proofs.PassedOn.{reads_as_often}
use Rattle.gptman_disk.proofs.disk.faulty.FaultyDiskDisk.read_exact.Goals as goal

pub returns-in_err-read_exact-clause-reads : goal.returns-in_err-read_exact-clause-reads
returns-in_err-read_exact-clause-reads c = reads_as_often c.args.self.now.failures c.read_exact.ensures.reads

pub returns-clause-reads : goal.returns-clause-reads
returns-clause-reads c = reads_as_often c.args.self.now.failures c.read_exact.ensures.reads
