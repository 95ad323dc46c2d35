use Rattle.std.proofs.Common.{◌<◌, ⊎_elim, inl, inr, ℕ, List, length, sym, ◌∙◌, subst}
use Rattle.std.proofs.lemmas.Bool.{false≢true}
use Rattle.std.proofs.lemmas.Result.{IfErr-weaker, IfOk-weaker, err_from_is_err_and}
use Rattle.gptman.specs.declared.table.GPT.{GPT}
use Rattle.gptman_plan.specs.Ends.{IsDiskOf}
use Rattle.gptman_plan.specs.Plan.{acts_of}
use Rattle.gptman_plan.specs.Planning.{IsFitPlan, IsFitRefusal, IsTablePlan, IsTableRefusal}
use Rattle.gptman_plan.specs.Planning.RefusesFit.{is_not_read_to_fit}
use Rattle.gptman_plan.specs.declared.record.Record.{Record}
use Rattle.gptman.specs.Reading.{reading_of}
use Rattle.gptman_plan.specs.Asking.{AsksAmong, fit_ranges, fitted_ranges, value_ranges}
use Rattle.gptman_plan.specs.Rounds.{reading_ranges}
use Rattle.gptman_plan.proofs.Asked.{among_left}
use Rattle.gptman_plan.proofs.AskedPlans.{asks_as, asks_none, fit_place}
use Rattle.gptman_plan.proofs.Fitted.{fit_plan, not_of_side, ready, size_refused, table_refused}
use Rattle.gptman_plan.proofs.fitting.plan_fit.Goals as goal

pub returns-clause-plan : goal.returns-clause-plan
returns-clause-plan c =
    let a = c.args in
    let g : GPT = c.in-Table.table in
    let told = c.in-Table.ensures.reading in
    IfOk-weaker c.plan_table.result (λ (plan : Record). (b : List ℕ) → IsDiskOf a.ends.now b → IsTablePlan b c.in_ok-fitted.fitted (acts_of plan.bytes.items plan.steps.items))
    (λ (plan : Record). (b : List ℕ) → IsDiskOf a.ends.now b → IsFitPlan b a.sector_size (acts_of plan.bytes.items plan.steps.items))
    (λ plan is. fit_plan a.ends.now a.sector_size g c.in-Table.is_backup told (c.is_of_side.ensures.0 c.if-not-is_of_side.false) c.in_ok-fitted.fitted (acts_of plan.bytes.items plan.steps.items) c.in_ok-fitted.ensures.value is)
    c.plan_table.ensures.plan

pub returns-clause-refused : goal.returns-clause-refused
returns-clause-refused c =
    let a = c.args in
    let g : GPT = c.in-Table.table in
    let told = c.in-Table.ensures.reading in
    IfErr-weaker c.plan_table.result (IsTableRefusal a.ends.now c.in_ok-fitted.fitted) (IsFitRefusal a.ends.now a.sector_size)
    (table_refused a.ends.now a.sector_size g c.in-Table.is_backup told c.in_ok-fitted.fitted c.in_ok-fitted.ensures.value)
    c.plan_table.ensures.refused

pub returns-in-Fault-clause-refused : goal.returns-in-Fault-clause-refused
returns-in-Fault-clause-refused c = ⊎_elim (λ none. inl none) (λ told. inr (λ b ends. is_not_read_to_fit (told b ends))) c.in-Fault.ensures.reading

pub returns-in_err-fitted-clause-refused : goal.returns-in_err-fitted-clause-refused
returns-in_err-fitted-clause-refused c =
    let a = c.args in
    let told = c.in-Table.ensures.reading in
    let p = err_from_is_err_and c.from_residual.result c.from_residual.ensures.1 in
    rw (p.1, p.2) (size_refused a.ends.now a.sector_size c.in-Table.table c.in-Table.is_backup told c.in_err-fitted.field-0.0 c.in_err-fitted.ensures.refused)

pub plan_table-requires : goal.plan_table-requires
plan_table-requires c =
    let a = c.args in
    let g : GPT = c.in-Table.table in
    let told = c.in-Table.ensures.reading in
    let is = ready g c.in_ok-fitted.fitted a.ends.now.size (subst (λ (n : ℕ). 0 < n) (sym told.sector) c.requires.sector) told.value.coherent c.in_ok-fitted.ensures.value c.in_ok-fitted.ensures.fits in
    record { sector = is.0; room = is.1; count = is.2; coherent = is.3 }

pub returns-then-not-is_of_side-clause-refused : goal.returns-then-not-is_of_side-clause-refused
returns-then-not-is_of_side-clause-refused c =
    let a = c.args in
    not_of_side a.ends.now a.sector_size c.in-Table.table c.in-Table.is_backup c.in-Table.ensures.reading
    (λ form. false≢true (sym c.if-not-is_of_side.true ∙ c.is_of_side.ensures.1 form))

pub returns-in-Lacks-clause-asked : goal.returns-in-Lacks-clause-asked
returns-in-Lacks-clause-asked c = λ b ends.
    let ss = c.args.sector_size in
    let lack = c.in-Lacks.lack in
    among_left (reading_ranges b ss) (fitted_ranges ss (length b) (reading_of b ss)) (lack.from, lack.length) (c.in-Lacks.ensures.reading.among b ends)

pub returns-in_err-fitted-clause-asked : goal.returns-in_err-fitted-clause-asked
returns-in_err-fitted-clause-asked c =
    let a = c.args in
    let p = err_from_is_err_and c.from_residual.result c.from_residual.ensures.1 in
    rw (p.1, p.2) (asks_none a.ends.now (λ b. fit_ranges b a.sector_size) c.in_err-fitted.field-0.0 c.in_err-fitted.ensures.asked)

pub returns-clause-asked : goal.returns-clause-asked
returns-clause-asked c =
    let a = c.args in
    let next : GPT = c.in_ok-fitted.fitted in
    IfErr-weaker c.plan_table.result (AsksAmong (λ _. value_ranges next a.ends.now.size) a.ends.now) (AsksAmong (λ b. fit_ranges b a.sector_size) a.ends.now)
    (asks_as a.ends.now (λ _. value_ranges next a.ends.now.size) (λ b. fit_ranges b a.sector_size)
    (λ b ends range is. fit_place a.ends.now a.sector_size c.in-Table.table c.in-Table.is_backup c.in-Table.ensures.reading range next c.in_ok-fitted.ensures.value is b ends))
    c.plan_table.ensures.asked
