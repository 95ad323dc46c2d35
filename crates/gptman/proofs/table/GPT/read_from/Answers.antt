use Rattle.std.proofs.Common.{◌≢◌, ⊎_elim, inr, sym, IsTrue, rules}
use Rattle.gptman_disk.specs.Fault.{fault_of, out_of_memory}
use Rattle.gptman.proofs.Fallback.{accepted_after, answer_after, fell_back, refused_after, taken_first, FellBack}
use Rattle.gptman.proofs.Readers.{both_read}
use Rattle.gptman.proofs.table.GPT.read_from.Given.{Over}
use Rattle.gptman.proofs.table.GPT.read_from.Goals as goal

pub returns-in-Ok-clause-answer : goal.returns-in-Ok-clause-answer
returns-in-Ok-clause-answer g c = λ honest.
    let old = g.D.Disk.state c.args.disk.now in
    ⊎_elim (λ fails. absurd fails.0)
    (λ rest. ⊎_elim (λ out. absurd out) (λ is. inr (inr (sym (taken_first old.view c.args.sector_size _ (sym is))))) rest)
    (c.in-Ok.ensures.answer honest)

pub returns-clause-reads : goal.returns-clause-reads
returns-clause-reads g c = both_read c.read_primary.ensures.reads c.read_backup.ensures.reads

-- The primary copy was refused, and this is the result of the fallback.
primary_refused : (g : Over) (c : goal.After-read_backup g) → IsTrue (g.D.Disk.state c.args.disk.now).is_honest
    → FellBack c.read_backup.result c.args.sector_size (fault_of c.in-Err.primary) (g.D.Disk.state c.args.disk.now)
    (g.D.Disk.state c.read_primary.new.disk) (g.D.Disk.state c.read_backup.new.disk)
primary_refused g c honest =
    let reads = c.read_primary.ensures.reads.only honest in
    let known : fault_of c.in-Err.primary ≢ out_of_memory = search rules in
    fell_back c.read_backup.result c.args.sector_size _ _ _ _ c.read_primary.ensures.reads.keeps c.read_backup.ensures.reads.keeps reads.view known
    (c.in-Err.ensures.answer honest) (c.read_backup.ensures.answer reads.wrote.honest)

pub returns-clause-answer : goal.returns-clause-answer
returns-clause-answer g c = λ honest. answer_after (primary_refused g c honest)

pub returns-clause-refused : goal.returns-clause-refused
returns-clause-refused g c = λ honest. refused_after (primary_refused g c honest)

pub returns-clause-accepted : goal.returns-clause-accepted
returns-clause-accepted g c = λ honest. accepted_after (primary_refused g c honest)
