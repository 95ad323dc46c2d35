use Rattle.std.proofs.Common.{inr, List, ℕ}
use Rattle.gptman_plan.specs.Asking.{plan_ranges}
use Rattle.gptman_plan.specs.Ends.{HasEnds}
use Rattle.gptman_plan.specs.Planning.{Cause, IsPlan, StopsPlan}
use Rattle.gptman_plan.specs.Reading.{OfEvery}
use Rattle.gptman_plan.proofs.AskedPlans.{answer_asked}
use Rattle.gptman_plan.proofs.Middle.{has_made}
use Rattle.gptman_plan.proofs.Refused.{answer_not_102}
use Rattle.gptman_c.proofs.Plans.{fault_there, has_plan}
use Rattle.gptman_c.proofs.planning.gptman_write.Goals as goal

pub returns-in-Ok-clause-suffices : goal.returns-in-Ok-clause-suffices
returns-in-Ok-clause-suffices c = λ _.
    let a = c.args in
    has_plan (λ acts. (b : List ℕ) → HasEnds b a.head.now a.tail.now a.disk_size → IsPlan b a.sector_size a.partitions.now acts) c.give.new.needed c.in-Ok.plan c.give.ensures.count c.give.ensures.filled
    (λ b has. c.in-Ok.ensures.plan b (has_made c.in-Some.ends a.head.now a.tail.now a.disk_size c.in-Some.ensures b has))

pub returns-in-Err-clause-refused : goal.returns-in-Err-clause-refused
returns-in-Err-clause-refused c = λ above below other b has.
    let a = c.args in
    fault_there (λ b cause. StopsPlan b a.sector_size a.partitions.now cause) c.in-Some.ends a.head.now a.tail.now a.disk_size c.in-Some.ensures c.in-Err.refusal c.in-Err.ensures.refused
    c.refuse.result c.refuse.ensures.answer below other b has

pub returns-in-Err-clause-asked : goal.returns-in-Err-clause-asked
returns-in-Err-clause-asked c = λ seventeen b has.
    let a = c.args in
    let e = c.in-Some.ends in
    inr (answer_asked e (λ b. plan_ranges b a.sector_size) c.in-Err.refusal c.in-Err.ensures.asked c.refuse.result c.refuse.ensures.answer
    c.refuse_dos-seen.new.needed c.refuse.new.needed c.refuse.ensures.needed seventeen b (has_made e a.head.now a.tail.now a.disk_size c.in-Some.ensures b has))

pub returns-in-Err-clause-dos_disk : goal.returns-in-Err-clause-dos_disk
returns-in-Err-clause-dos_disk c = λ number.
    let a = c.args in
    let e = c.in-Some.ends in
    let why : Cause → Type 0 = λ cause. OfEvery e (λ b. StopsPlan b a.sector_size a.partitions.now cause) in
    absurd (answer_not_102 why e c.in-Err.refusal c.in-Err.ensures.refused c.refuse.result c.refuse.ensures.answer number)
