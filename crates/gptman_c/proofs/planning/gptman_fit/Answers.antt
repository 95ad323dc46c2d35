use Rattle.std.proofs.Common.{⊎_elim, inl, inr, ℕ, List, sym, subst, arith}
use Rattle.std.proofs.lemmas.Bool.{cases_lt}
use Rattle.gptman_plan.specs.Asking.{fit_ranges}
use Rattle.gptman_plan.specs.Ends.{HasEnds, zeroed}
use Rattle.gptman_plan.specs.Plan.{Act}
use Rattle.gptman_plan.specs.Planning.{Cause, IsFitPlan, StopsFit}
use Rattle.gptman_plan.specs.Reading.{OfEvery}
use Rattle.gptman_plan.proofs.AskedPlans.{answer_asked}
use Rattle.gptman_plan.proofs.Middle.{has_made, zero_ends}
use Rattle.gptman_plan.proofs.Refused.{answer_bad, answer_length, answer_most, answer_not_102}
use Rattle.gptman_c.proofs.Plans.{fault_there, has_plan}
use Rattle.gptman_c.proofs.planning.gptman_fit.Goals as goal

pub returns-in-Ok-clause-plan : goal.returns-in-Ok-clause-plan
returns-in-Ok-clause-plan c = λ zero b has.
    let a = c.args in
    subst (λ (acts : List Act). IsFitPlan b a.sector_size acts) (sym (c.give.ensures.given zero))
    (c.in-Ok.ensures.plan b (has_made c.in-Some.ends a.head.now a.tail.now a.disk_size c.in-Some.ensures b has))

pub returns-in-Ok-clause-suffices : goal.returns-in-Ok-clause-suffices
returns-in-Ok-clause-suffices c = λ _.
    let a = c.args in
    has_plan (λ acts. (b : List ℕ) → HasEnds b a.head.now a.tail.now a.disk_size → IsFitPlan b a.sector_size acts) c.give.new.needed c.in-Ok.plan c.give.ensures.count c.give.ensures.filled
    (λ b has. c.in-Ok.ensures.plan b (has_made c.in-Some.ends a.head.now a.tail.now a.disk_size c.in-Some.ensures b has))

pub returns-in-Err-clause-refused : goal.returns-in-Err-clause-refused
returns-in-Err-clause-refused c = λ above below other b has.
    let a = c.args in
    fault_there (λ b cause. StopsFit b a.sector_size cause) c.in-Some.ends a.head.now a.tail.now a.disk_size c.in-Some.ensures c.in-Err.refusal c.in-Err.ensures.refused
    c.refuse.result c.refuse.ensures.answer below other b has

pub returns-in-Err-clause-asked : goal.returns-in-Err-clause-asked
returns-in-Err-clause-asked c = λ seventeen b has.
    let a = c.args in
    let e = c.in-Some.ends in
    inr (answer_asked e (λ b. fit_ranges b a.sector_size) c.in-Err.refusal c.in-Err.ensures.asked c.refuse.result c.refuse.ensures.answer
    c.refuse_dos-seen.new.needed c.refuse.new.needed c.refuse.ensures.needed seventeen b (has_made e a.head.now a.tail.now a.disk_size c.in-Some.ensures b has))

pub returns-in-Err-clause-bad : goal.returns-in-Err-clause-bad
returns-in-Err-clause-bad c = λ nineteen.
    let e = c.in-Some.ends in
    let why : Cause → Type 0 = λ cause. OfEvery e (λ b. StopsFit b c.args.sector_size cause) in
    absurd (answer_bad why e c.in-Err.refusal c.in-Err.ensures.refused c.refuse.result c.refuse.ensures.answer nineteen (zeroed e) (zero_ends e))

pub returns-in-Err-clause-dos_disk : goal.returns-in-Err-clause-dos_disk
returns-in-Err-clause-dos_disk c = λ number.
    let e = c.in-Some.ends in
    let why : Cause → Type 0 = λ cause. OfEvery e (λ b. StopsFit b c.args.sector_size cause) in
    absurd (answer_not_102 why e c.in-Err.refusal c.in-Err.ensures.refused c.refuse.result c.refuse.ensures.answer number)

pub returns-in-Err-clause-most : goal.returns-in-Err-clause-most
returns-in-Err-clause-most c =
    let e = c.in-Some.ends in
    let why : Cause → Type 0 = λ cause. OfEvery e (λ b. StopsFit b c.args.sector_size cause) in
    let n : ℕ = c.refuse.result in
    ⊎_elim inl
    (λ is. inr (
      ⊎_elim (λ above. above)
          (λ low. absurd (answer_length why e c.in-Err.refusal c.in-Err.ensures.refused n c.refuse.ensures.answer (omega (arith, is.0, low)) (zeroed e) (zero_ends e)))
          (cases_lt 100 n),
      is.1,
    ))
    (answer_most why e c.in-Err.refusal c.in-Err.ensures.refused n c.refuse.ensures.answer)
