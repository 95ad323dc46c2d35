use Rattle.std.proofs.Common.{ℕ, List, refl, subst}
use Rattle.std.proofs.lemmas.Result.{IfErr-weaker, IfOk-weaker, err_from_is_err_and}
use Rattle.gptman.specs.Table.{new_table_of}
use Rattle.gptman.specs.declared.table.GPT.{GPT}
use Rattle.gptman_plan.specs.Ends.{IsDiskOf}
use Rattle.gptman_plan.specs.Plan.{Act, acts_of}
use Rattle.gptman_plan.specs.Planning.{IsNewPlan, IsNewRefusal, IsTablePlan, IsTableRefusal, StopsNew, StopsTable}
use Rattle.gptman_plan.specs.declared.record.Record.{Record}
use Rattle.gptman_plan.specs.Asking.{AsksAmong, value_ranges}
use Rattle.gptman_plan.specs.Rounds.{IsAmong}
use Rattle.gptman_plan.proofs.AskedPlans.{asks_as, asks_none}
use Rattle.gptman_plan.proofs.Refused.{refused_as}
use Rattle.gptman_plan.proofs.TablePlans.{new_plan, table_stops_new}
use Rattle.gptman_plan.proofs.making.plan_new.Goals as goal

pub returns-clause-plan : goal.returns-clause-plan
returns-clause-plan c =
    let a = c.args in
    let g : GPT = c.in_ok-table.table in
    let new : GPT = new_table_of a.count a.disk_guid a.sector_size a.ends.now.size in
    IfOk-weaker c.plan_table.result (λ (plan : Record). (b : List ℕ) → IsDiskOf a.ends.now b → IsTablePlan b g (acts_of plan.bytes.items plan.steps.items))
    (λ (plan : Record). (b : List ℕ) → IsDiskOf a.ends.now b → IsNewPlan b new (acts_of plan.bytes.items plan.steps.items))
    (λ plan is b ends. let acts : List Act = acts_of plan.bytes.items plan.steps.items in
    new_plan b new acts (refl, refl) (subst (λ (t : GPT). IsTablePlan b t acts) c.in_ok-table.ensures.value (is b ends)))
    c.plan_table.ensures.plan

pub returns-clause-refused : goal.returns-clause-refused
returns-clause-refused c =
    let a = c.args in
    let g : GPT = c.in_ok-table.table in
    IfErr-weaker c.plan_table.result (IsTableRefusal a.ends.now g) (IsNewRefusal a.ends.now a.sector_size a.count a.disk_guid)
    (λ r is. refused_as (StopsTable g a.ends.now.size) (StopsNew a.count a.disk_guid a.sector_size a.ends.now.size) a.ends.now
    (table_stops_new a.count a.disk_guid a.sector_size a.ends.now.size g c.in_ok-table.ensures.value) r is)
    c.plan_table.ensures.refused

pub returns-in_err-table-clause-asked : goal.returns-in_err-table-clause-asked
returns-in_err-table-clause-asked c =
    let a = c.args in
    let new : GPT = new_table_of a.count a.disk_guid a.sector_size a.ends.now.size in
    let p = err_from_is_err_and c.from_residual.result c.from_residual.ensures.1 in
    rw (p.1, p.2) (asks_none a.ends.now (λ _. value_ranges new a.ends.now.size) c.in_err-table.field-0.0 c.in_err-table.ensures.asked)

pub returns-clause-asked : goal.returns-clause-asked
returns-clause-asked c =
    let a = c.args in
    let g : GPT = c.in_ok-table.table in
    let new : GPT = new_table_of a.count a.disk_guid a.sector_size a.ends.now.size in
    IfErr-weaker c.plan_table.result (AsksAmong (λ _. value_ranges g a.ends.now.size) a.ends.now) (AsksAmong (λ _. value_ranges new a.ends.now.size) a.ends.now)
    (asks_as a.ends.now (λ _. value_ranges g a.ends.now.size) (λ _. value_ranges new a.ends.now.size)
    (λ b ends range is. subst (λ (t : GPT). IsAmong range (value_ranges t a.ends.now.size)) c.in_ok-table.ensures.value is))
    c.plan_table.ensures.asked
