use Rattle.gptman_plan.specs.Ends.{zeroed}
use Rattle.gptman_plan.proofs.Middle.{zero_ends}
use Rattle.gptman_c.proofs.checking.refuse_dos.Goals as goal

pub returns-in-Unknown-clause-asked : goal.returns-in-Unknown-clause-asked
returns-in-Unknown-clause-asked c = λ _.
    let ends = c.args.ends.now in
    c.in-Unknown.ensures.among (zeroed ends) (zero_ends ends)
