use Rattle.std.proofs.Common.{ℕ, subst}
use Rattle.gptman.specs.declared.table.GPT.{GPT}
use Rattle.gptman_change.specs.Planning.{IsPlannedAs}
use Rattle.gptman_change.specs.declared.Planned.{Planned}
use Rattle.gptedit_core.specs.Growing.{IsLeftGrown, IsWrittenGrown}
use Rattle.gptedit_core.specs.Planning.{IsLeft, IsPlanned, IsWritten}
use Rattle.gptedit_core.specs.declared.plan.Outcome.{Outcome}
use Rattle.test_laws.proofs.Fitted.{keeping}
use Rattle.test_laws.proofs.fittings.grow_and_change.Goals as goal

pub returns-in-Write-2 : goal.returns-in-Write-2
returns-in-Write-2 g c =
    let request = c.args.request.now in
    let n : ℕ = (g.D.Disk.state c.args.disk.now).size in
    let m : ℕ = (g.D.Disk.state c.change.new.disk).size in
    let table : GPT = c.args.table.now in
    let mid : GPT = c.change.new.table in
    let next : GPT = c.change-2.new.table in
    let grown : IsWrittenGrown keeping n table mid c.in-Write.field-0 =
    subst (λ (p : Planned Outcome). IsPlannedAs (IsWrittenGrown keeping n) (IsLeftGrown keeping n) table mid p) c.in-Write.is c.in_ok-change.ensures.value in
    let changed : IsWritten request m mid next c.in-Write-2.field-0 =
    subst (λ (p : Planned Outcome). IsPlannedAs (IsWritten request m) (IsLeft request m) mid next p) c.in-Write-2.is c.in_ok-change-2.ensures.value in
    let planned : IsPlanned request n mid next = subst (λ (k : ℕ). IsPlanned request k mid next) c.change.ensures.reads.keeps.size changed.planned in
    record { both = λ yes. c.fitted_requests_are_both.ensures.both request n table mid next grown.planned planned }
