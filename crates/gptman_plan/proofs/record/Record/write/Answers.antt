use Rattle.std.proofs.Common.{rules, ◌⊎◌, inl, ⊎_elim, ◌≡◌, ◌++◌, ◌∷◌, [], length, refl, sym, subst, ◌∙◌, List, ℕ}
use Rattle.std.specs.Prelude.{All}
use Rattle.std.proofs.lemmas.List.Elements.{All-push}
use Rattle.gptman_plan.specs.Plan.{IsWriteOrSync, StepFits, acts_of}
use Rattle.gptman_plan.specs.declared.records.Step.{Step}
use Rattle.gptman_plan.proofs.Steps.{acts_longer, acts_write, fit_longer, fit_write, write_of_more}
use Rattle.gptman_plan.proofs.record.Record.write.Goals as goal

pub invariant_of-self-2 : goal.invariant_of-self-2
invariant_of-self-2 c =
    let r = c.args.self.now in
    let s : Step = write_of_more r.size r.bytes.items c.args.buf.now c.args.at in
    let grown : c.extend_from_slice.new.self.items ≡ r.bytes.items ++ c.args.buf.now = search rules in
    let pushed : (c.push.new.self.items ≡ r.steps.items ++ s ∷ []) ⊎ (c.push.new.self.items ≡ r.steps.items) = search rules in
    record {
      held = subst (λ (buffer : List ℕ). All (StepFits r.size (length buffer)) c.push.new.self.items) (sym grown) (⊎_elim
          (λ yes. subst (λ (steps : List Step). All (StepFits r.size (length (r.bytes.items ++ c.args.buf.now))) steps) (sym yes) (fit_write r.size r.bytes.items c.args.buf.now c.args.at r.steps.items r.held c.requires))
          (λ no. subst (λ (steps : List Step). All (StepFits r.size (length (r.bytes.items ++ c.args.buf.now))) steps) (sym no) (fit_longer r.size r.bytes.items c.args.buf.now r.steps.items r.held))
          pushed);
      kinds = ⊎_elim
          (λ yes. subst (λ (steps : List Step). All IsWriteOrSync steps) (sym yes) (All-push IsWriteOrSync r.steps.items s r.kinds (inl refl)))
          (λ no. subst (λ (steps : List Step). All IsWriteOrSync steps) (sym no) r.kinds)
          pushed;
    }

pub returns-then-is_err-2-clause-refused : goal.returns-then-is_err-2-clause-refused
returns-then-is_err-2-clause-refused c = λ _.
    let r = c.args.self.now in
    let grown : c.extend_from_slice.new.self.items ≡ r.bytes.items ++ c.args.buf.now = search rules in
    let kept : c.push.new.self.items ≡ r.steps.items = search rules in
    (λ i. acts_of (grown i) (kept i)) ∙ acts_longer r.size r.bytes.items c.args.buf.now r.steps.items r.held

pub returns-clause-done : goal.returns-clause-done
returns-clause-done c = λ _.
    let r = c.args.self.now in
    let grown : c.extend_from_slice.new.self.items ≡ r.bytes.items ++ c.args.buf.now = search rules in
    let pushed : c.push.new.self.items ≡ r.steps.items ++ write_of_more r.size r.bytes.items c.args.buf.now c.args.at ∷ [] = search rules in
    (λ i. acts_of (grown i) (pushed i)) ∙ acts_write r.size r.bytes.items c.args.buf.now c.args.at r.steps.items r.held
