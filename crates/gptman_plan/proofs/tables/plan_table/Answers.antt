use Rattle.std.proofs.Common.{List}
use Rattle.gptman.specs.Ranges.{AreInside}
use Rattle.gptman.specs.Table.{table_in}
use Rattle.gptman.specs.declared.table.GPT.{GPT}
use Rattle.gptman_plan.specs.Crossing.{four_ranges}
use Rattle.gptman_plan.specs.Ends.{HaveRanges}
use Rattle.gptman_plan.specs.Plan.{Act, acts_of}
use Rattle.gptman_plan.specs.Reading.{IsLack}
use Rattle.gptman_plan.specs.Asking.{value_ranges}
use Rattle.gptman_plan.specs.Rounds.{IsAmong}
use Rattle.std.proofs.lemmas.Result.{err_from_is_err_and}
use Rattle.gptman_plan.proofs.AskedPlans.{asks_none, if_some}
use Rattle.gptman_plan.proofs.KnownCopies.{at_none}
use Rattle.gptman_plan.proofs.TablePlans.{table_any}
use Rattle.gptman_plan.proofs.tables.plan_table.Goals as goal

pub returns-clause-plan : goal.returns-clause-plan
returns-clause-plan c = λ b ends.
    let a = c.args in
    let g : GPT = a.table in
    let acts : List Act = acts_of c.in_ok-plan.plan.bytes.items c.in_ok-plan.plan.steps.items in
    let on_disk : Type 0 = AreInside (four_ranges (table_in g) g.sector_size a.ends.now.size) a.ends.now.size → HaveRanges a.ends.now (four_ranges (table_in g) g.sector_size a.ends.now.size) in
    let places : on_disk = at_none on_disk (IsLack a.ends.now) c.lack_of_places-lack.result c.in_default.is c.lack_of_places-lack.ensures.known in
    table_any a.ends.now g acts places c.in_ok-plan.ensures.written c.in_ok-plan.ensures.order (c.has_layout-is_laid_out.ensures.0 c.if-not-is_laid_out.false) b ends

pub returns-in_err-plan-clause-asked : goal.returns-in_err-plan-clause-asked
returns-in_err-plan-clause-asked c =
    let a = c.args in
    let p = err_from_is_err_and c.from_residual.result c.from_residual.ensures.1 in
    rw (p.1, p.2) (asks_none a.ends.now (λ _. value_ranges a.table a.ends.now.size) c.in_err-plan.field-0.0 c.in_err-plan.ensures.asked)

pub returns-in-Some-clause-asked : goal.returns-in-Some-clause-asked
returns-in-Some-clause-asked c = λ b ends.
    if_some (λ lack. IsAmong (lack.from, lack.length) (value_ranges c.args.table c.args.ends.now.size)) c.lack_of_places-lack.result c.in-Some.lack c.in-Some.is c.lack_of_places-lack.ensures.asked
