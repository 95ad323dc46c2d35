use Rattle.gptedit_core.proofs.Fitted.{all_planned, all_refused}
use Rattle.gptedit_core.proofs.fitting.make_fitted.Goals as goal

pub returns-clause-planned : goal.returns-clause-planned
returns-clause-planned c =
    all_planned c.args.request.now c.args.size c.args.was.now c.set_bounds.new.table c.requires.fits c.in_ok-set_bounds.ensures.value c.make.new.table c.make.result
    c.make.ensures.planned

pub returns-clause-refused : goal.returns-clause-refused
returns-clause-refused c =
    all_refused c.args.request.now c.args.size c.args.was.now c.set_bounds.new.table c.requires.fits c.in_ok-set_bounds.ensures.value c.make.result c.make.ensures.refused
