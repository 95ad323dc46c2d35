-- Answers of the calls that plan a write.
use Rattle.std.proofs.Common.{◌≡◌, ◌≢◌, ◌≤◌, ℕ, List, length, sym}
use Rattle.gptman_plan.specs.Ends.{HasEnds}
use Rattle.gptman_plan.specs.Plan.{Act, acts_of}
use Rattle.gptman_plan.specs.Planning.{Cause, HasPlan, IsNumberOf, IsRefusal, refusal_number}
use Rattle.gptman_plan.specs.Planning.Cause.{a_fault}
use Rattle.gptman_plan.specs.Reading.{OfEvery}
use Rattle.gptman_plan.specs.declared.ends.Ends.{Ends}
use Rattle.gptman_plan.specs.declared.planning.PlanError.{PlanError}
use Rattle.gptman_plan.specs.declared.record.Record.{Record}
use Rattle.gptman_plan.specs.declared.records.Needed.{Needed}
use Rattle.gptman_plan.proofs.Middle.{has_made}
use Rattle.gptman_plan.proofs.Refused.{answer_fault}

-- the plan for which there is no room
pub has_plan : (is_plan : List Act → Type 0) (needed : Needed) (plan : Record) → needed.steps ≡ length plan.steps.items → needed.bytes ≡ length plan.bytes.items
    → is_plan (acts_of plan.bytes.items plan.steps.items) → HasPlan is_plan needed
has_plan is_plan needed plan count filled is = record { steps = plan.steps.items; bytes = plan.bytes.items; count = sym count; filled = sym filled; plan = is }

-- the fault for which there is none, on every disk with the ends that were passed
pub fault_there : (why : List ℕ → Cause → Type 0) (e : Ends) (head tail : List ℕ) (size : ℕ) → (e.head.now ≡ head) × (e.tail.now ≡ tail) × (e.size ≡ size)
    → (r : PlanError) → IsRefusal (λ cause. OfEvery e (λ b. why b cause)) e r → (answer : ℕ) → answer ≡ refusal_number r → answer ≤ 16 → answer ≢ 15
    → (b : List ℕ) → HasEnds b head tail size → IsNumberOf (λ fault. why b (a_fault fault)) answer
fault_there why e head tail size made r refused answer is below other b has =
    let told = answer_fault (λ cause. OfEvery e (λ b. why b cause)) e r refused answer is below other in
    record { fault = told.fault; holds = told.holds b (has_made e head tail size made b has); number_is = told.number_is }
