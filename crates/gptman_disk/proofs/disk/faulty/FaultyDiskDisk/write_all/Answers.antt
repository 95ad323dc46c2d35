use Rattle.gptman_disk.proofs.PassedOn.{writes_over}
use Rattle.gptman_disk.proofs.disk.faulty.FaultyDiskDisk.write_all.Goals as goal

pub returns-in_err-write_all-clause-wrote : goal.returns-in_err-write_all-clause-wrote
returns-in_err-write_all-clause-wrote c = writes_over c.args.self.now.failures c.args.self.now.failures _ c.write_all.ensures.wrote

pub returns-then-is_chosen-clause-wrote : goal.returns-then-is_chosen-clause-wrote
returns-then-is_chosen-clause-wrote c = writes_over c.args.self.now.failures c.fail.new.failures _ c.write_all.ensures.wrote

pub returns-clause-wrote : goal.returns-clause-wrote
returns-clause-wrote c = writes_over c.args.self.now.failures c.args.self.now.failures _ c.write_all.ensures.wrote
