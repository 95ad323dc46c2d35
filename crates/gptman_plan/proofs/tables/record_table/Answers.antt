use Rattle.std.proofs.Common.{refl}
use Rattle.gptman_plan.specs.Ends.{length-zeroed, zeroed}
use Rattle.gptman_plan.specs.Plan.{acts_of}
use Rattle.gptman_plan.proofs.Planned.{after_calls, begins_at}
use Rattle.gptman_plan.proofs.TablePlans.{order_zero, written_zero}
use Rattle.gptman_plan.proofs.tables.record_table.Goals as goal

pub returns-in-Ok-clause-written : goal.returns-in-Ok-clause-written
returns-in-Ok-clause-written c = λ layout.
    let a = c.args in
    let made = c.new-disk.ensures in
    let begins = begins_at c.new-disk.result a.ends.now made.ends made.acts made.position made.failures in
    let after = after_calls c.new-disk.result c.write_into-written.new.disk a.ends.now c.into_plan.result begins made.ends c.in-Ok.ensures.keeps.size (c.in-Ok.ensures.wrote refl).time c.into_plan.ensures in
    written_zero (zeroed a.ends.now) a.ends.now.size a.table (acts_of c.into_plan.result.bytes.items c.into_plan.result.steps.items) _ _
    (length-zeroed a.ends.now) begins after layout c.in-Ok.ensures.outside c.in-Ok.ensures.stored

pub returns-in-Ok-clause-order : goal.returns-in-Ok-clause-order
returns-in-Ok-clause-order c = λ layout side form.
    let a = c.args in
    let made = c.new-disk.ensures in
    let begins = begins_at c.new-disk.result a.ends.now made.ends made.acts made.position made.failures in
    let after = after_calls c.new-disk.result c.write_into-written.new.disk a.ends.now c.into_plan.result begins made.ends c.in-Ok.ensures.keeps.size (c.in-Ok.ensures.wrote refl).time c.into_plan.ensures in
    order_zero (zeroed a.ends.now) a.ends.now.size a.table (acts_of c.into_plan.result.bytes.items c.into_plan.result.steps.items) _ _
    (length-zeroed a.ends.now) begins after layout side form c.in-Ok.ensures.order
