use Rattle.gptedit_core.proofs.Remade.{safe_anew}
use Rattle.gptedit_core.proofs.making.remake.Goals as goal

pub returns-clause-safe : goal.returns-clause-safe
returns-clause-safe g c = λ keeps was good.
    safe_anew c.args.creation.now c.args.sector_size was (g.D.Disk.state c.args.disk.now) (g.D.Disk.state c.change_table.new.disk) keeps good (c.change_table.ensures.leaves good.honest)
