use Rattle.std.proofs.Common.{ℕ, subst}
use Rattle.gptman.specs.declared.table.GPT.{GPT}
use Rattle.gptman_change.specs.Planning.{IsPlannedAs}
use Rattle.gptman_change.specs.declared.Planned.{Planned}
use Rattle.gptedit_core.specs.Growing.{IsLeftGrown, IsWrittenGrown}
use Rattle.gptedit_core.specs.declared.growth.Growth.{Growth}
use Rattle.gptedit_core.specs.declared.plan.Outcome.{Outcome}
use Rattle.test_laws.proofs.Twice.{growth_left, growth_written}
use Rattle.test_laws.proofs.growths.grow_twice.Goals as goal

pub returns-in-Leave-clause-left : goal.returns-in-Leave-clause-left
returns-in-Leave-clause-left g c =
    let growth : Growth = c.args.growth.now in
    let n : ℕ = (g.D.Disk.state c.args.disk.now).size in (
      c.in-Leave.field-0,
      subst (λ (p : Planned Outcome). IsPlannedAs (IsWrittenGrown growth n) (IsLeftGrown growth n) c.args.table.now c.change.new.table p) c.in-Leave.is c.in_ok-change.ensures.value,
    )

pub returns-in-Write-2-clause-again : goal.returns-in-Write-2-clause-again
returns-in-Write-2-clause-again g c =
    let growth : Growth = c.args.growth.now in
    let n : ℕ = (g.D.Disk.state c.args.disk.now).size in
    let m : ℕ = (g.D.Disk.state c.change.new.disk).size in
    let table : GPT = c.args.table.now in
    let next : GPT = c.change.new.table in
    let clone : GPT = c.in_ok-clone.clone in
    let first : IsWrittenGrown growth n table next c.in-Write.field-0 =
    subst (λ (p : Planned Outcome). IsPlannedAs (IsWrittenGrown growth n) (IsLeftGrown growth n) table next p) c.in-Write.is c.in_ok-change.ensures.value in
    let again : IsWrittenGrown growth m clone c.change-2.new.table c.in-Write-2.told =
    subst (λ (p : Planned Outcome). IsPlannedAs (IsWrittenGrown growth m) (IsLeftGrown growth m) clone c.change-2.new.table p) c.in-Write-2.is c.in_ok-told.ensures.value in
    growth_written c.growths_again_change_nothing.ensures growth n table next first.planned m clone c.change-2.new.table c.in-Write-2.told
    c.change.ensures.reads.keeps.size c.in_ok-clone.ensures.ok again

pub returns-clause-again : goal.returns-clause-again
returns-clause-again g c =
    let growth : Growth = c.args.growth.now in
    let n : ℕ = (g.D.Disk.state c.args.disk.now).size in
    let m : ℕ = (g.D.Disk.state c.change.new.disk).size in
    let table : GPT = c.args.table.now in
    let next : GPT = c.change.new.table in
    let clone : GPT = c.in_ok-clone.clone in
    let first : IsWrittenGrown growth n table next c.in-Write.field-0 =
    subst (λ (p : Planned Outcome). IsPlannedAs (IsWrittenGrown growth n) (IsLeftGrown growth n) table next p) c.in-Write.is c.in_ok-change.ensures.value in
    let again : IsLeftGrown growth m clone c.in-Leave-2.told =
    subst (λ (p : Planned Outcome). IsPlannedAs (IsWrittenGrown growth m) (IsLeftGrown growth m) clone c.change-2.new.table p) c.in-Leave-2.is c.in_ok-told.ensures.value in
    growth_left c.growths_again_change_nothing.ensures growth n table next first.planned m clone c.in-Leave-2.told
    c.change.ensures.reads.keeps.size c.in_ok-clone.ensures.ok again
