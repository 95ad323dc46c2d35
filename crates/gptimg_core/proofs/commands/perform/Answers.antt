use Rattle.std.proofs.Common.{inl, refl, sym, subst, ℕ, IsTrue}
use Rattle.std.specs.Prelude.{Result, Ok, Err, IfOk}
use Rattle.gptman.specs.declared.table.GPT.{GPT}
use Rattle.gptman.specs.Error.{Error}
use Rattle.gptman_change.specs.Planning.{of_left, of_written, IsAnswer}
use Rattle.gptman_change.proofs.Written.{is_made}
use Rattle.gptimg_core.specs.Changes.{report_of, IsMade}
use Rattle.gptimg_core.specs.Checks.{is_good}
use Rattle.gptimg_core.specs.declared.commands.Report.{Report}
use Rattle.gptimg_core.specs.declared.words.Change.{Change}
use Rattle.gptimg_core.specs.declared.words.Change.TheVariants.{Add, Remove, Sort, Grow}
use Rattle.gptimg_core.proofs.commands.perform.Goals as goal

if_ok_as : {P Q : Report → Type 0} (r : Result Report Error) → ((report : Report) → P report → Q report) → IfOk r P → IfOk r Q
if_ok_as (Ok report) turn is = turn report is
if_ok_as (Err e) turn is = tt

-- the report of a change is good
good_report : (change : Change) (g : GPT) → IsTrue (is_good (report_of change g))
good_report (Add a) g = refl
good_report (Remove number) g = refl
good_report Sort g = refl
good_report Grow g = refl

good_answer : (change : Change) (len : ℕ) (report : Report) → IsAnswer (IsMade change len) (λ _ _. ⊥) report → IsTrue (is_good report)
good_answer change len report (of_written table next made) = subst (λ (r : Report). IsTrue (is_good r)) (sym made.1) (good_report change next)
good_answer change len report (of_left table never) = absurd never

pub returns-in-New-clause-does : goal.returns-in-New-clause-does
returns-in-New-clause-does g c =
    let ensures = c.write_new.ensures in
    rw c.in-New.is (record {
      does = record {
        refused = ensures.refused;
        counts = ensures.failure.0;
        wrote = ensures.wrote;
        made = ensures.made;
        stored = ensures.stored;
        replaces = ensures.replaces;
      };
      good = if_ok_as c.write_new.result (λ report done. inl (subst (λ (r : Report). IsTrue (is_good r)) (sym done) refl)) ensures.made;
      cause = ensures.failure.1;
      kept = ensures.kept;
    })

pub returns-in-Change-clause-does : goal.returns-in-Change-clause-does
returns-in-Change-clause-does g c =
    let ensures = c.change_table.ensures in
    rw c.in-Change.is (record {
      does = record {
        refused = ensures.refused;
        changed = λ honest. is_made _ (λ _ _. ⊥) (λ table report never. never) _ _ _ c.change_table.result (ensures.changed honest);
        leaves = ensures.leaves;
      };
      good = if_ok_as c.change_table.result (λ report answer. inl (good_answer c.in-Change.change _ report answer)) ensures.answer;
      cause = ensures.cause;
      kept = ensures.kept;
    })
