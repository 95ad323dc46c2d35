use Rattle.std.proofs.Common.{◌≡◌, ◌≢◌, ◌<◌, ◌⊎◌, inl, inr, ℕ, List, length, map, sym, ap, ◌∙◌, subst, arith}
use Rattle.std.proofs.lemmas.Result.{IfErr-weaker, IfOk-weaker, err_from_is_err_and}
use Rattle.gptman.specs.TableReads.{copy_of}
use Rattle.gptman.specs.declared.codec.entry.GPTPartitionEntry.{GPTPartitionEntry}
use Rattle.gptman.specs.declared.codec.header.GPTHeader.{GPTHeader}
use Rattle.gptman_plan.specs.Crossing.{content_in}
use Rattle.gptman_plan.specs.Ends.{IsDiskOf}
use Rattle.gptman_plan.specs.Plan.{acts_of}
use Rattle.gptman_plan.specs.Planning.{IsPlan, IsPlanRefusal, IsTablePlan, IsTableRefusal}
use Rattle.gptman_plan.specs.declared.record.Record.{Record}
use Rattle.gptman.specs.Reading.{reading_of}
use Rattle.gptman_plan.specs.Asking.{AsksAmong, plan_ranges, table_ranges, value_ranges}
use Rattle.gptman_plan.specs.Rounds.{reading_ranges}
use Rattle.gptman_plan.proofs.Asked.{among_left}
use Rattle.gptman_plan.proofs.AskedPlans.{asks_as, plan_place}
use Rattle.gptman_plan.proofs.Rewritten.{ready, write_asked, write_plan, write_refused}
use Rattle.gptman_plan.proofs.planning.plan.Goals as goal
use Rattle.gptman_plan.proofs.planning.plan.Goals.{then-count-eq0-via-then-count-eq0, then-count-eq0-via-else-count-eq0+then-partitions-count, then-count-eq0-via-else-count-eq0+else-partitions-count+then-ends-sector_size}

pub from_parts-next-requires : goal.from_parts-next-requires
from_parts-next-requires c = omega (arith, c.in-Ok.ensures.len, c.from-count.ensures)

pub plan_table-requires : goal.plan_table-requires
plan_table-requires c =
    let a = c.args in
    let g = c.in_ok-table.table in
    let next = c.from_parts-next in
    let count : length a.partitions.now ≡ g.header.number_of_partition_entries = omega arith in
    let is = ready a.ends.now a.sector_size g next.result c.in_ok-table.ensures.table c.requires.sector (omega arith) (omega arith) next.ensures.sector
    (ap (λ (l : List GPTPartitionEntry). length l) next.ensures.entries ∙ c.in-Ok.ensures.len ∙ count)
    (ap (λ (h : GPTHeader). h.number_of_partition_entries) next.ensures.header)
    (ap (λ (h : GPTHeader). h.header_size) next.ensures.header)
    (ap (λ (h : GPTHeader). h.size_of_partition_entry) next.ensures.header) in
    record { sector = is.0; room = is.1; count = is.2; coherent = is.3 }

pub returns-clause-plan : goal.returns-clause-plan
returns-clause-plan c =
    let a = c.args in
    let g = c.in_ok-table.table in
    let next = c.from_parts-next in
    IfOk-weaker c.plan_table.result
    (λ (plan : Record). (b : List ℕ) → IsDiskOf a.ends.now b → IsTablePlan b next.result (acts_of plan.bytes.items plan.steps.items))
    (λ (plan : Record). (b : List ℕ) → IsDiskOf a.ends.now b → IsPlan b a.sector_size a.partitions.now (acts_of plan.bytes.items plan.steps.items))
    (λ plan is b ends. write_plan a.ends.now a.sector_size g next.result a.partitions.now c.in_ok-table.ensures.table (omega arith) (ap (map content_in) next.ensures.entries ∙ c.in-Ok.ensures.entries) next.ensures.sector next.ensures.header
    b ends (acts_of plan.bytes.items plan.steps.items) (is b ends))
    c.plan_table.ensures.plan

pub returns-clause-refused : goal.returns-clause-refused
returns-clause-refused c =
    let a = c.args in
    let g = c.in_ok-table.table in
    let next = c.from_parts-next in
    IfErr-weaker c.plan_table.result (IsTableRefusal a.ends.now next.result) (IsPlanRefusal a.ends.now a.sector_size a.partitions.now)
    (write_refused a.ends.now a.sector_size g next.result a.partitions.now c.in_ok-table.ensures.table (omega arith) (ap (map content_in) next.ensures.entries ∙ c.in-Ok.ensures.entries) next.ensures.sector next.ensures.header)
    c.plan_table.ensures.refused

pub returns-in_err-table-clause-refused : goal.returns-in_err-table-clause-refused
returns-in_err-table-clause-refused c =
    let p = err_from_is_err_and c.from_residual.result c.from_residual.ensures.1 in
    rw (p.1, p.2) (c.in_err-table.ensures.refused c.args.partitions.now)

pub returns-then-count-eq0-clause-refused : goal.returns-then-count-eq0-clause-refused
returns-then-count-eq0-clause-refused c = λ b ends.
    let a = c.args in
    let g = c.in_ok-table.table in
    let n : ℕ = g.header.number_of_partition_entries in
    let count : (n ≡ 0) ⊎ ((length a.partitions.now ≢ n) ⊎ (length b < a.sector_size)) =
    elim c.then-count-eq0.branch as (λ _. (n ≡ 0) ⊎ ((length a.partitions.now ≢ n) ⊎ (length b < a.sector_size))) [
      | then-count-eq0-via-then-count-eq0 w ↦ inl (omega (arith, w.if-count-eq0.true, c.from-count.ensures))
      | then-count-eq0-via-else-count-eq0+then-partitions-count w ↦
          inr (inl (λ is. w.if-partitions-count.true (omega (arith, is, c.from-count.ensures))))
      | then-count-eq0-via-else-count-eq0+else-partitions-count+then-ends-sector_size w ↦
          inr (inr (subst (λ (k : ℕ). k < a.sector_size) (sym ends.long) w.if-ends-sector_size.true))
    ] in
    record { copy = copy_of g; taken = c.in_ok-table.ensures.table.read.reading b ends; count = count }

pub returns-in_err-table-clause-asked : goal.returns-in_err-table-clause-asked
returns-in_err-table-clause-asked c =
    let a = c.args in
    let ss = a.sector_size in
    let p = err_from_is_err_and c.from_residual.result c.from_residual.ensures.1 in
    rw (p.1, p.2) (asks_as a.ends.now (λ b. reading_ranges b ss) (λ b. plan_ranges b ss)
    (λ b ends range is. among_left (reading_ranges b ss) (table_ranges ss (length b) (reading_of b ss)) range is)
    c.in_err-table.field-0.0 c.in_err-table.ensures.asked)

pub returns-in-Some-clause-asked : goal.returns-in-Some-clause-asked
returns-in-Some-clause-asked c =
    let a = c.args in
    let stated = c.in_ok-table.ensures.table in
    plan_place a.ends.now a.sector_size c.in_ok-table.table stated.is_backup stated.read (c.in-Some.lack.from, c.in-Some.lack.length) c.in-Some.ensures.asked

pub returns-clause-asked : goal.returns-clause-asked
returns-clause-asked c =
    let a = c.args in
    let g = c.in_ok-table.table in
    let next = c.from_parts-next in
    IfErr-weaker c.plan_table.result (AsksAmong (λ _. value_ranges next.result a.ends.now.size) a.ends.now) (AsksAmong (λ b. plan_ranges b a.sector_size) a.ends.now)
    (write_asked a.ends.now a.sector_size g next.result a.partitions.now c.in_ok-table.ensures.table (omega arith) (ap (map content_in) next.ensures.entries ∙ c.in-Ok.ensures.entries) next.ensures.sector next.ensures.header)
    c.plan_table.ensures.asked
