use Rattle.gptman_change.proofs.Read.{found_read, given_read, read_aligned}
use Rattle.gptman_change.proofs.Refused.{found_refused, given_refused}
use Rattle.gptman_change.proofs.read_table.Goals as goal

pub returns-in-Some-clause-value : goal.returns-in-Some-clause-value
returns-in-Some-clause-value g c = λ honest.
    let e = c.read_from.ensures in
    rw c.in-Some.is (given_read c.in-Some.size (g.D.Disk.state c.args.disk.now) (g.D.Disk.state c.read_from.new.disk) c.read_from.result
    (e.answer honest) (e.accepted honest) e.sector e.value)

pub returns-in-None-clause-value : goal.returns-in-None-clause-value
returns-in-None-clause-value g c = λ honest.
    let e = c.find_from.ensures in
    rw c.in-None.is (found_read (g.D.Disk.state c.args.disk.now) (g.D.Disk.state c.find_from.new.disk) c.find_from.result
    (e.answer honest) (e.accepted honest) (e.second honest) e.value)

pub returns-in-Some-clause-refused : goal.returns-in-Some-clause-refused
returns-in-Some-clause-refused g c = λ honest.
    let e = c.read_from.ensures in
    rw c.in-Some.is (given_refused c.in-Some.size (g.D.Disk.state c.args.disk.now) (g.D.Disk.state c.read_from.new.disk) c.read_from.result
    (e.answer honest) (e.refused honest))

pub returns-in-None-clause-refused : goal.returns-in-None-clause-refused
returns-in-None-clause-refused g c = λ honest.
    let e = c.find_from.ensures in
    rw c.in-None.is (found_refused (g.D.Disk.state c.args.disk.now) (g.D.Disk.state c.find_from.new.disk) c.find_from.result
    (e.answer honest) (e.refused honest))

pub returns-in-Some-clause-aligned : goal.returns-in-Some-clause-aligned
returns-in-Some-clause-aligned g c = read_aligned c.read_from.result c.read_from.ensures.value

pub returns-in-None-clause-aligned : goal.returns-in-None-clause-aligned
returns-in-None-clause-aligned g c = read_aligned c.find_from.result c.find_from.ensures.value
