use Rattle.gptman.specs.Disk.{DiskState}
use Rattle.test_laws.proofs.Requested.{all_own_refitted, all_refitted}
use Rattle.test_laws.proofs.refits.change_both.Goals as goal

pub returns-clause-shape : goal.returns-clause-shape
returns-clause-shape g c = λ honest.
    let a : DiskState = g.D.Disk.state c.args.disk.now in
    let d : DiskState = g.D.Disk.state c.edit_fitted_reshaped.new.disk in
    all_refitted c.args.both.now a.size c.args.sector_size a d c.edit_fitted_reshaped.result c.fitted_shapes_reach_the_end.ensures.reached (c.edit_fitted_reshaped.ensures.done honest)

pub returns-clause-alone : goal.returns-clause-alone
returns-clause-alone g c = λ honest.
    let a : DiskState = g.D.Disk.state c.args.disk.now in
    let d : DiskState = g.D.Disk.state c.edit_fitted_reshaped.new.disk in
    all_own_refitted c.args.both.now a.size c.args.sector_size a d c.edit_fitted_reshaped.result c.fitted_shapes_are_both.ensures.alone (c.edit_fitted_reshaped.ensures.done honest)
