use Rattle.std.proofs.Common.{◌<◌, ℕ, subst, sym}
use Rattle.gptman.specs.declared.table.GPT.{GPT}
use Rattle.gptman_change.specs.Planning.{IsPlannedAs}
use Rattle.gptman_change.specs.declared.Planned.{Planned}
use Rattle.gptedit_core.specs.Planning.{IsLeft, IsWritten}
use Rattle.gptedit_core.specs.declared.plan.Outcome.{Outcome}
use Rattle.gptedit_core.specs.declared.plan.Request.{Request}
use Rattle.test_laws.proofs.Twice.{left_unchanged, planned_align, written_again}
use Rattle.test_laws.proofs.layouts.ask_twice.Goals as goal

pub returns-in-Leave-clause-left : goal.returns-in-Leave-clause-left
returns-in-Leave-clause-left g c =
    let first : Request = c.args.first.now in
    let n : ℕ = (g.D.Disk.state c.args.disk.now).size in (
      c.in-Leave.field-0,
      subst (λ (p : Planned Outcome). IsPlannedAs (IsWritten first n) (IsLeft first n) c.args.table.now c.change.new.table p) c.in-Leave.is c.in_ok-change.ensures.value,
    )

pub change-requires-2-clause-aligned : goal.change-requires-2-clause-aligned
change-requires-2-clause-aligned g c =
    let first : Request = c.args.first.now in
    let n : ℕ = (g.D.Disk.state c.args.disk.now).size in
    let next : GPT = c.change.new.table in
    let made : IsWritten first n c.args.table.now next c.in-Write.field-0 =
    subst (λ (p : Planned Outcome). IsPlannedAs (IsWritten first n) (IsLeft first n) c.args.table.now next p) c.in-Write.is c.in_ok-change.ensures.value in
    subst (λ (t : GPT). 0 < t.align) (sym c.in_ok-clone.ensures.ok) (planned_align first n c.args.table.now next made.planned c.requires.aligned)

pub returns-in-Write-2-clause-again : goal.returns-in-Write-2-clause-again
returns-in-Write-2-clause-again g c = λ asks.
    let first : Request = c.args.first.now in
    let second : Request = c.args.again.now in
    let n : ℕ = (g.D.Disk.state c.args.disk.now).size in
    let m : ℕ = (g.D.Disk.state c.change.new.disk).size in
    let table : GPT = c.args.table.now in
    let next : GPT = c.change.new.table in
    let clone : GPT = c.in_ok-clone.clone in
    let made : IsWritten first n table next c.in-Write.field-0 =
    subst (λ (p : Planned Outcome). IsPlannedAs (IsWritten first n) (IsLeft first n) table next p) c.in-Write.is c.in_ok-change.ensures.value in
    let again : IsWritten second m clone c.change-2.new.table c.in-Write-2.told =
    subst (λ (p : Planned Outcome). IsPlannedAs (IsWritten second m) (IsLeft second m) clone c.change-2.new.table p) c.in-Write-2.is c.in_ok-told.ensures.value in
    written_again c.layouts_again_change_nothing.ensures c.layouts_again_are_taken.ensures first second n table next c.requires.first c.requires.again made.planned asks
    m clone c.change-2.new.table c.in-Write-2.told c.change.ensures.reads.keeps.size c.in_ok-clone.ensures.ok again

pub returns-clause-again : goal.returns-clause-again
returns-clause-again g c = λ asks.
    let first : Request = c.args.first.now in
    let second : Request = c.args.again.now in
    let n : ℕ = (g.D.Disk.state c.args.disk.now).size in
    let m : ℕ = (g.D.Disk.state c.change.new.disk).size in
    let table : GPT = c.args.table.now in
    let next : GPT = c.change.new.table in
    let clone : GPT = c.in_ok-clone.clone in
    let made : IsWritten first n table next c.in-Write.field-0 =
    subst (λ (p : Planned Outcome). IsPlannedAs (IsWritten first n) (IsLeft first n) table next p) c.in-Write.is c.in_ok-change.ensures.value in
    let again : IsLeft second m clone c.in-Leave-2.told =
    subst (λ (p : Planned Outcome). IsPlannedAs (IsWritten second m) (IsLeft second m) clone c.change-2.new.table p) c.in-Leave-2.is c.in_ok-told.ensures.value in
    left_unchanged c.layouts_again_change_nothing.ensures c.layouts_again_are_taken.ensures first second n table next c.requires.first c.requires.again made.planned asks
    m clone c.in-Leave-2.told c.change.ensures.reads.keeps.size c.in_ok-clone.ensures.ok again
