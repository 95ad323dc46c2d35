use Rattle.gptedit_look.proofs.Spared.{spares_found}
use Rattle.gptedit_look.proofs.guard.find_obstacle.Goals as goal

pub returns-in-None-clause-spares : goal.returns-in-None-clause-spares
returns-in-None-clause-spares g c = λ honest none.
    let old = g.D.Disk.state c.args.disk.now in
    spares_found c.args.look.now c.args.purpose c.args.next.now old.view old.size c.in_ok-refused.field-0 (g.met.D.Disk.sound c.args.disk.now honest).size
    c.in-None.is (c.in_ok-refused.ensures.value honest)
