use Rattle.std.proofs.Common.{◌≡◌, ◌-◌, ◌*◌, ◌/◌, ℕ, subst}
use Rattle.gptman_plan.specs.Checking.{AreCopiesKnown}
use Rattle.gptman_plan.specs.Reading.{IsCopyKnown, IsLackOf}
use Rattle.gptman_plan.specs.Rounds.{copy_ranges, reading_ranges}
use Rattle.gptman_plan.proofs.Asked.{backup_lack, matched_both, primary_lack}
use Rattle.gptman_plan.proofs.Checked.{both_known}
use Rattle.gptman_plan.proofs.KnownCopies.{at_none, at_some, backup_known, no_backup_known, primary_known}
use Rattle.gptman_plan.proofs.checking.lack_of_copies.Goals as goal

pub returns-then-ends-sector_size : goal.returns-then-ends-sector_size
returns-then-ends-sector_size c =
    let e = c.args.ends.now in
    let ss = c.args.sector_size in
    let told = at_none (IsCopyKnown e ss ss) (IsLackOf (λ b. copy_ranges b ss ss) e) c.lack_of_copy.result c.in_default.is c.lack_of_copy.ensures.known in
    record {
      known = both_known e ss (primary_known e ss told) (no_backup_known e ss c.if-ends-sector_size.true);
    }

pub returns-in-Some : goal.returns-in-Some
returns-in-Some c =
    let e = c.args.ends.now in
    let ss = c.args.sector_size in
    record {
      known = primary_lack e ss c.in-Some.lack
          (at_some (IsCopyKnown e ss ss) (IsLackOf (λ b. copy_ranges b ss ss) e) c.lack_of_copy.result c.in-Some.lack c.in-Some.is c.lack_of_copy.ensures.known);
    }

pub returns : goal.returns
returns c =
    let e = c.args.ends.now in
    let ss = c.args.sector_size in
    let told = at_none (IsCopyKnown e ss ss) (IsLackOf (λ b. copy_ranges b ss ss) e) c.lack_of_copy.result c.in_default.is c.lack_of_copy.ensures.known in
    let at : ℕ = c.last_sector-at.result in
    let is : at ≡ (e.size / ss - 1) * ss = c.last_sector-at.ensures in
    record {
      known = matched_both (IsCopyKnown e at ss) (AreCopiesKnown e ss) (IsLackOf (λ b. copy_ranges b ss at) e) (IsLackOf (λ b. reading_ranges b ss) e)
          c.lack_of_copy-2.result
          (λ other. both_known e ss (primary_known e ss told) (backup_known e ss (subst (λ (n : ℕ). IsCopyKnown e n ss) is other)))
          (λ lack which. backup_lack e ss at is lack which) c.lack_of_copy-2.ensures.known;
    }
