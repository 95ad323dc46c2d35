use Rattle.gptman.specs.Disk.{DiskState}
use Rattle.test_laws.proofs.Requested.{all_own_reshaped, all_shaped}
use Rattle.test_laws.proofs.shapes.change_reshaped.Goals as goal

pub returns-clause-shape : goal.returns-clause-shape
returns-clause-shape g c = λ honest.
    let a : DiskState = g.D.Disk.state c.args.disk.now in
    let d : DiskState = g.D.Disk.state c.edit_reshaped.new.disk in
    all_shaped c.args.reshaped.now a.size c.args.sector_size a d c.edit_reshaped.result c.reshaped_tables_have_the_shape.ensures.shape (c.edit_reshaped.ensures.done honest)

pub returns-clause-alone : goal.returns-clause-alone
returns-clause-alone g c = λ honest.
    let a : DiskState = g.D.Disk.state c.args.disk.now in
    let d : DiskState = g.D.Disk.state c.edit_reshaped.new.disk in
    all_own_reshaped c.args.reshaped.now a.size c.args.sector_size a d c.edit_reshaped.result c.reshaped_requests_add_nothing.ensures.alone (c.edit_reshaped.ensures.done honest)
