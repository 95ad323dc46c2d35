use Rattle.gptedit_core.proofs.Refitted.{all_both, all_refused, empty_for_fitted}
use Rattle.gptedit_core.proofs.fitted_reshaping.make_both.Goals as goal

pub returns-clause-planned : goal.returns-clause-planned
returns-clause-planned c =
    all_both c.args.reshaped.now c.args.size c.args.was.now c.set_bounds.new.table c.requires.fits c.in_ok-set_bounds.ensures.value c.make_reshaped.result c.make_reshaped.ensures.planned

pub returns-clause-refused : goal.returns-clause-refused
returns-clause-refused c =
    all_refused c.args.reshaped.now c.args.size c.args.was.now c.set_bounds.new.table c.requires.fits c.in_ok-set_bounds.ensures.value c.make_reshaped.result c.make_reshaped.ensures.refused

pub make_reshaped-requires-clause-empty : goal.make_reshaped-requires-clause-empty
make_reshaped-requires-clause-empty c =
    empty_for_fitted c.args.reshaped.now.shape.entries c.args.size c.args.was.now c.set_bounds.new.table c.args.empty c.in_ok-set_bounds.ensures.value c.requires.empty
