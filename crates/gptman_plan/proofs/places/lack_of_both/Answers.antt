use Rattle.std.proofs.Common.{[], ◌∷◌, inr}
use Rattle.gptman_plan.proofs.AskedPlans.{first_among, some_among}
use Rattle.gptman_plan.proofs.places.lack_of_both.Goals as goal

pub returns-then-is_some-clause-asked : goal.returns-then-is_some-clause-asked
returns-then-is_some-clause-asked c =
    let a = c.args in
    first_among a.header 92 ((a.start, a.array) ∷ []) c.lack_inside-lack.result c.lack_inside-lack.ensures.asked

pub returns-clause-asked : goal.returns-clause-asked
returns-clause-asked c =
    let a = c.args in
    some_among ((a.start, a.array) ∷ []) ((a.header, 92) ∷ (a.start, a.array) ∷ []) (λ range is. inr is) c.lack_inside.result
    (first_among a.start a.array [] c.lack_inside.result c.lack_inside.ensures.asked)
