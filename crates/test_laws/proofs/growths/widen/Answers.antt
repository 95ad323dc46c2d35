use Rattle.gptman.specs.Disk.{DiskState}
use Rattle.gptedit_core.specs.declared.growth.Bounds.TheVariants.{Usual}
use Rattle.test_laws.proofs.Fitted.{all_on_disk, all_wide}
use Rattle.test_laws.proofs.growths.widen.Goals as goal

pub returns-clause-wide : goal.returns-clause-wide
returns-clause-wide g c = λ honest.
    let a : DiskState = g.D.Disk.state c.args.disk.now in
    let d : DiskState = g.D.Disk.state c.grow.new.disk in
    all_wide c.usual_bounds_reach_the_end.ensures a.size c.args.sector_size a d c.grow.result (c.grow.ensures.done honest)

pub returns-clause-stored : goal.returns-clause-stored
returns-clause-stored g c = λ honest.
    let a : DiskState = g.D.Disk.state c.args.disk.now in
    let d : DiskState = g.D.Disk.state c.grow.new.disk in
    all_on_disk Usual c.args.sector_size a d c.grow.result (c.grow.ensures.done honest)
