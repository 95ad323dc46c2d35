use Rattle.std.proofs.Common.{◌≡◌, sym, subst, rules}
use Rattle.std.specs.Prelude.{Err}
use Rattle.gptedit_core.specs.Targets.{Selects}
use Rattle.gptedit_core.specs.declared.target.NotFound.TheVariants.{Several}
use Rattle.gptedit_core.proofs.Targets.{finds_at_end, is_right, only_of, outcome_in, refused_of, Finds}
use Rattle.gptedit_core.proofs.target.find_target.Goals as goal
use Rattle.gptedit_core.proofs.target.find_target.Goals.{After-ok_or}

pub returns-in-Some-found-clause-refused : goal.returns-in-Some-found-clause-refused
returns-in-Some-found-clause-refused c =
    let same : outcome_in c.args.target.now c.args.table.now ≡ Err (Several c.in-Some-found.first c.in-Some.number) = sym (search rules) in
    subst (Finds (Selects c.args.table.now c.args.target.now)) same (is_right c.args.target.now c.args.table.now c.loop-number.invariant.2)

finds : (c : After-ok_or) → Finds (Selects c.args.table.now c.args.target.now) c.ok_or.result
finds c =
    finds_at_end c.args.target.now c.args.table.now c.loop-number.found c.loop-number.number-iterator c.ok_or.result c.loop-number.invariant.2 c.loop-number.invariant.3
    c.in-None.ensures.steps.0 c.ok_or.ensures.value

pub returns-clause-found : goal.returns-clause-found
returns-clause-found c = only_of c.args.target.now c.args.table.now c.ok_or.result (finds (goal.at.returns-clause-found c).After-ok_or)

pub returns-clause-refused : goal.returns-clause-refused
returns-clause-refused c = refused_of c.args.target.now c.args.table.now c.ok_or.result (finds (goal.at.returns-clause-refused c).After-ok_or)
