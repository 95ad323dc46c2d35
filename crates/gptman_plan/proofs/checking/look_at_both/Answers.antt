use Rattle.gptman_plan.specs.Checking.{AreCopiesKnown}
use Rattle.gptman_plan.specs.Ends.{zeroed}
use Rattle.gptman_plan.specs.Reading.{IsLackOf}
use Rattle.gptman_plan.specs.Rounds.{reading_ranges}
use Rattle.gptman_plan.proofs.Checked.{check_known}
use Rattle.gptman_plan.proofs.KnownCopies.{at_none}
use Rattle.gptman_plan.proofs.checking.look_at_both.Goals as goal

pub returns-clause-look : goal.returns-clause-look
returns-clause-look c = λ b ends.
    let e = c.args.ends.now in
    let ss = c.args.sector_size in
    let told = at_none (AreCopiesKnown e ss) (IsLackOf (λ b. reading_ranges b ss) e) c.lack_of_copies.result c.in_default.is c.lack_of_copies.ensures.known in
    let made = c.check_of.ensures in
    check_known (zeroed e) b ss c.in_ok-copies.copies c.check_of.result (λ side. told side b ends) c.in_ok-copies.ensures.found made.primary made.backup made.same made.flag made.reserved
