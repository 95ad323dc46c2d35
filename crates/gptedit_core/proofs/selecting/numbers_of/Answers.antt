use Rattle.std.proofs.Common.{◌≡◌, [], List, drop, subst}
use Rattle.std.proofs.lemmas.List.{drop_all}
use Rattle.gptedit_core.specs.declared.target.Target.{Target}
use Rattle.gptedit_core.proofs.Selected.{find_last, Finds}
use Rattle.gptedit_core.proofs.selecting.numbers_of.Goals as goal

pub returns-clause-found : goal.returns-clause-found
returns-clause-found c =
    let g = c.args.table.now in
    let targets = c.args.targets.now in
    let done = c.loop-target.numbers.items in
    let none : drop c.loop-target.target-index targets ≡ [] = drop_all c.loop-target.target-index targets c.loop-target-test.false in
    find_last g targets done (subst (λ (left : List Target). Finds g left done targets) none c.loop-target.invariant)
