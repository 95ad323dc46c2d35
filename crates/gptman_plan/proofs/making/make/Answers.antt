use Rattle.gptman.specs.Fault.{fault_of}
use Rattle.gptman_plan.proofs.Refused.{new_refused}
use Rattle.gptman_plan.proofs.Unfailed.{state_of, unfailed}
use Rattle.gptman_plan.proofs.making.make.Goals as goal

pub returns-in-Err-clause-refused : goal.returns-in-Err-clause-refused
returns-in-Err-clause-refused c =
    let a = c.args in
    new_refused a.count a.disk_guid a.sector_size a.ends.now.size (fault_of c.in-Err.fault) (state_of c.new-disk.result) (state_of c.with_entries.new.disk) (λ i. (c.new-disk.ensures.ends i).size) (unfailed c.new-disk.result c.with_entries.new.disk c.new-disk.ensures.torn c.in-Err.ensures.reads) c.in-Err.ensures.answer
