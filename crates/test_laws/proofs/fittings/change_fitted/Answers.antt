use Rattle.gptman.specs.Disk.{DiskState}
use Rattle.test_laws.proofs.Requested.{all_end, all_of_same, all_own}
use Rattle.test_laws.proofs.fittings.change_fitted.Goals as goal

pub returns-clause-ends : goal.returns-clause-ends
returns-clause-ends g c = λ honest.
    let a : DiskState = g.D.Disk.state c.args.disk.now in
    let d : DiskState = g.D.Disk.state c.edit_fitted.new.disk in
    all_end c.args.fitted.now a.size c.args.sector_size a d c.edit_fitted.result c.fitted_requests_reach_the_end.ensures.reached (c.edit_fitted.ensures.done honest)

pub returns-clause-alone : goal.returns-clause-alone
returns-clause-alone g c = λ honest.
    let a : DiskState = g.D.Disk.state c.args.disk.now in
    let d : DiskState = g.D.Disk.state c.edit_fitted.new.disk in
    all_own c.args.fitted.now a.size c.args.sector_size a d c.edit_fitted.result c.fitted_requests_are_both.ensures.alone (c.edit_fitted.ensures.done honest)

pub returns-clause-entries : goal.returns-clause-entries
returns-clause-entries g c = λ honest.
    let a : DiskState = g.D.Disk.state c.args.disk.now in
    let d : DiskState = g.D.Disk.state c.edit_fitted.new.disk in
    all_of_same c.args.fitted.now a.size c.args.sector_size a d c.edit_fitted.result c.fitting_keeps_the_entries.ensures.kept (c.edit_fitted.ensures.done honest)
