use Rattle.gptedit_core.proofs.Growing.{all_grown, all_refused}
use Rattle.gptedit_core.proofs.growth.settle.Goals as goal

pub returns-clause-grown : goal.returns-clause-grown
returns-clause-grown c =
    all_grown c.args.bounds c.args.size c.args.was.now c.set_bounds.new.table c.requires.fits c.in_ok-set_bounds.ensures.value c.check_grown.result c.check_grown.ensures.may

pub returns-clause-refused : goal.returns-clause-refused
returns-clause-refused c =
    all_refused c.args.bounds c.args.size c.args.was.now c.set_bounds.new.table c.requires.fits c.in_ok-set_bounds.ensures.value c.check_grown.result c.check_grown.ensures.refused
