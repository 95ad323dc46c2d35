use Rattle.gptman_disk.proofs.PassedOn.{reads_as_often}
use Rattle.gptman_disk.proofs.disk.faulty.FaultyDiskDisk.seek_start.Goals as goal

pub returns-in_err-self-clause-reads : goal.returns-in_err-self-clause-reads
returns-in_err-self-clause-reads c = reads_as_often c.args.self.now.failures c.seek_start.ensures.reads

pub returns-clause-reads : goal.returns-clause-reads
returns-clause-reads c = reads_as_often c.args.self.now.failures c.seek_start.ensures.reads
