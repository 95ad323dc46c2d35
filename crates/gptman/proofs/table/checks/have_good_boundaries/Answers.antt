use Rattle.std.proofs.Common.{arith}
use Rattle.std.proofs.lemmas.Result.{IfOk-weaker}
use Rattle.gptman.proofs.table.checks.have_good_boundaries.Goals as goal

pub returns : goal.returns
returns c =
    let ordered = c.are_ordered.ensures.0 c.if-not-are_ordered.false in
    let within = c.all_lie_within.ensures.0 c.if-not-all_lie_within.false in
    IfOk-weaker c.are_disjoint.result _ _ (λ ok h. (
      λ t. record { ordered = ordered; disjoint = h.0 t; within = within; bounds = omega arith },
      λ good. h.1 good.disjoint,
    )) c.are_disjoint.ensures
