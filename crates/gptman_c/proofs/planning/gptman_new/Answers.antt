use Rattle.std.proofs.Common.{ℕ, List, inr, subst}
use Rattle.gptman.specs.Table.{new_table_of}
use Rattle.gptman_plan.specs.Asking.{value_ranges}
use Rattle.gptman_plan.specs.Ends.{zeroed}
use Rattle.gptman_plan.specs.Planning.{Cause, IsNumberOf, RefusesNew, StopsNew}
use Rattle.gptman_plan.specs.Rounds.{IsAmong}
use Rattle.gptman_plan.proofs.AskedPlans.{answer_asked}
use Rattle.gptman_plan.proofs.Middle.{zero_ends}
use Rattle.gptman_plan.proofs.Refused.{answer_above, answer_fault, answer_not_102}
use Rattle.gptman_c.proofs.planning.gptman_new.Goals as goal

pub returns-in-Err-clause-plan : goal.returns-in-Err-clause-plan
returns-in-Err-clause-plan c = λ zero b has.
    let a = c.args in
    let e = c.in-Some.ends in
    let why : Cause → Type 0 = StopsNew a.table.now.entry_count a.table.now.disk_guid a.sector_size e.size in
    absurd (answer_above why e c.in-Err.refusal c.in-Err.ensures.refused c.refuse.result c.refuse.ensures.answer zero)

pub returns-in-Err-clause-refused : goal.returns-in-Err-clause-refused
returns-in-Err-clause-refused c = λ above below other.
    let a = c.args in
    let e = c.in-Some.ends in
    let why : Cause → Type 0 = StopsNew a.table.now.entry_count a.table.now.disk_guid a.sector_size e.size in
    subst (λ (n : ℕ). IsNumberOf (RefusesNew a.table.now.entry_count a.table.now.disk_guid a.sector_size n) c.refuse.result) c.in-Some.ensures.2
    (answer_fault why e c.in-Err.refusal c.in-Err.ensures.refused c.refuse.result c.refuse.ensures.answer below other)

pub returns-in-Err-clause-asked : goal.returns-in-Err-clause-asked
returns-in-Err-clause-asked c = λ seventeen.
    let a = c.args in
    let e = c.in-Some.ends in
    let places : ℕ → List (ℕ × ℕ) = λ n. value_ranges (new_table_of a.table.now.entry_count a.table.now.disk_guid a.sector_size n) n in
    let needed = c.refuse.new.needed in
    inr (subst (λ (n : ℕ). IsAmong (needed.from, needed.length) (places n)) c.in-Some.ensures.2
    (answer_asked e (λ _. places e.size) c.in-Err.refusal c.in-Err.ensures.asked c.refuse.result c.refuse.ensures.answer
    c.refuse_dos-seen.new.needed c.refuse.new.needed c.refuse.ensures.needed seventeen
    (zeroed e) (zero_ends e)))

pub returns-in-Err-clause-dos_disk : goal.returns-in-Err-clause-dos_disk
returns-in-Err-clause-dos_disk c = λ number.
    let a = c.args in
    let e = c.in-Some.ends in
    let why : Cause → Type 0 = StopsNew a.table.now.entry_count a.table.now.disk_guid a.sector_size e.size in
    absurd (answer_not_102 why e c.in-Err.refusal c.in-Err.ensures.refused c.refuse.result c.refuse.ensures.answer number)
