use Rattle.std.proofs.Common.{◌≡◌, ◌∙◌, ◌-◌, ◌*◌, ◌/◌, ℕ, sym, subst}
use Rattle.gptman_plan.specs.Reading.{IsCopyKnown, IsLackOf}
use Rattle.gptman_plan.specs.Rounds.{copy_ranges}
use Rattle.gptman_plan.proofs.Asked.{backup_lack, primary_lack}
use Rattle.gptman_plan.proofs.KnownCopies.{at_none, at_some, at_primary, with_backup, without_backup}
use Rattle.gptman_plan.proofs.reading.find_place.Goals as goal

pub returns-then-branch-clause-place : goal.returns-then-branch-clause-place
returns-then-branch-clause-place c =
    let e = c.args.ends.now in
    let ss = c.args.sector_size in
    let told = at_none (IsCopyKnown e ss ss) (IsLackOf (λ b. copy_ranges b ss ss) e) c.lack_of_copy.result c.in_default.is c.lack_of_copy.ensures.known in
    at_primary e ss told (sym c.in_ok-has_primary.ensures.answer ∙ c.if-branch.true)

pub returns-then-ends-sector_size-clause-place : goal.returns-then-ends-sector_size-clause-place
returns-then-ends-sector_size-clause-place c =
    let e = c.args.ends.now in
    let ss = c.args.sector_size in
    let told = at_none (IsCopyKnown e ss ss) (IsLackOf (λ b. copy_ranges b ss ss) e) c.lack_of_copy.result c.in_default.is c.lack_of_copy.ensures.known in
    without_backup e ss told (sym c.in_ok-has_primary.ensures.answer ∙ c.if-branch.false) c.if-ends-sector_size.true

pub returns-in-None-clause-place : goal.returns-in-None-clause-place
returns-in-None-clause-place c =
    let e = c.args.ends.now in
    let ss = c.args.sector_size in
    let told = at_none (IsCopyKnown e ss ss) (IsLackOf (λ b. copy_ranges b ss ss) e) c.lack_of_copy.result c.in_default.is c.lack_of_copy.ensures.known in
    let at : c.last_sector-at.result ≡ (e.size / ss - 1) * ss = c.last_sector-at.ensures in
    let other = at_none (IsCopyKnown e c.last_sector-at.result ss) (IsLackOf (λ b. copy_ranges b ss c.last_sector-at.result) e) c.lack_of_copy-2.result c.in-None.is c.lack_of_copy-2.ensures.known in
    with_backup e ss told (sym c.in_ok-has_primary.ensures.answer ∙ c.if-branch.false)
    (subst (λ (n : ℕ). IsCopyKnown e n ss) at other)

pub returns-in-Some-clause-place : goal.returns-in-Some-clause-place
returns-in-Some-clause-place c =
    let e = c.args.ends.now in
    let ss = c.args.sector_size in
    primary_lack e ss c.in-Some.lack
    (at_some (IsCopyKnown e ss ss) (IsLackOf (λ b. copy_ranges b ss ss) e) c.lack_of_copy.result c.in-Some.lack c.in-Some.is c.lack_of_copy.ensures.known)

pub returns-in-Some-lack_of_copy-clause-place : goal.returns-in-Some-lack_of_copy-clause-place
returns-in-Some-lack_of_copy-clause-place c =
    let e = c.args.ends.now in
    let ss = c.args.sector_size in
    let at : ℕ = c.last_sector-at.result in
    backup_lack e ss at c.last_sector-at.ensures c.in-Some-lack_of_copy.lack
    (at_some (IsCopyKnown e at ss) (IsLackOf (λ b. copy_ranges b ss at) e) c.lack_of_copy-2.result c.in-Some-lack_of_copy.lack c.in-Some-lack_of_copy.is c.lack_of_copy-2.ensures.known)
