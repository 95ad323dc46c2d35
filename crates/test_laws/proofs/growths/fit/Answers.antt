use Rattle.gptman.specs.Disk.{DiskState}
use Rattle.gptedit_core.specs.declared.growth.Bounds.TheVariants.{Kept}
use Rattle.test_laws.proofs.Fitted.{all_fit, all_on_disk}
use Rattle.test_laws.proofs.growths.fit.Goals as goal

pub returns-clause-fitted : goal.returns-clause-fitted
returns-clause-fitted g c = λ honest.
    let a : DiskState = g.D.Disk.state c.args.disk.now in
    let d : DiskState = g.D.Disk.state c.grow.new.disk in
    let law = c.growths_follow_the_end.ensures in
    all_fit law.reached law.left law.first a.size c.args.sector_size a d c.grow.result (c.grow.ensures.done honest)

pub returns-clause-stored : goal.returns-clause-stored
returns-clause-stored g c = λ honest.
    let a : DiskState = g.D.Disk.state c.args.disk.now in
    let d : DiskState = g.D.Disk.state c.grow.new.disk in
    all_on_disk Kept c.args.sector_size a d c.grow.result (c.grow.ensures.done honest)
