use Rattle.std.proofs.Common.{rules, ◌≡◌, ◌++◌, ℕ, List, length, take, drop, ap, subst, sym, ◌∙◌}
use Rattle.std.specs.Prelude.{All}
use Rattle.std.proofs.Math.Seq.{take-append_seam}
use Rattle.gptman_plan.specs.Plan.{IsWriteOrSync, StepFits, acts_of}
use Rattle.gptman_plan.specs.declared.records.Step.{Step}
use Rattle.gptman_plan.proofs.Steps.{acts_longer}
use Rattle.gptman_plan.proofs.record.Record.give.Goals as goal

-- the copied steps are those of the plan
first_steps : (given steps rest : List Step) → given ≡ steps → take (length steps) (given ++ rest) ≡ steps
first_steps given steps rest same = ap (λ (l : List Step). take (length steps) (l ++ rest)) same ∙ take-append_seam steps rest

pub returns-clause-given : goal.returns-clause-given
returns-clause-given c = λ _.
    let r = c.args.self.now in
    let steps_are : c.copy_from_slice.new.self ≡ r.steps.items = search rules in
    let bytes_are : c.copy_from_slice-2.new.self ≡ r.bytes.items = search rules in
    let rest : List ℕ = drop c.len-3.result c.args.bytes.now in
    (λ i. acts_of (bytes_are i ++ rest) (first_steps c.copy_from_slice.new.self r.steps.items (drop c.len-2.result c.args.steps.now) steps_are i))
    ∙ acts_longer r.size r.bytes.items rest r.steps.items r.held

pub returns-clause-steps_fit : goal.returns-clause-steps_fit
returns-clause-steps_fit c = λ _.
    let r = c.args.self.now in
    let steps_are : c.copy_from_slice.new.self ≡ r.steps.items = search rules in
    subst (λ (steps : List Step). All (StepFits r.size (length r.bytes.items)) steps)
    (sym (first_steps c.copy_from_slice.new.self r.steps.items (drop c.len-2.result c.args.steps.now) steps_are)) r.held

pub returns-clause-kinds : goal.returns-clause-kinds
returns-clause-kinds c = λ _.
    let r = c.args.self.now in
    let steps_are : c.copy_from_slice.new.self ≡ r.steps.items = search rules in
    subst (λ (steps : List Step). All IsWriteOrSync steps)
    (sym (first_steps c.copy_from_slice.new.self r.steps.items (drop c.len-2.result c.args.steps.now) steps_are)) r.kinds
