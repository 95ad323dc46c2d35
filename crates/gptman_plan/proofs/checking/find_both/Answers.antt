use Rattle.std.proofs.Common.{◌≡◌, refl}
use Rattle.gptman_plan.specs.Ends.{zeroed}
use Rattle.gptman_plan.proofs.Checked.{found_in}
use Rattle.gptman_plan.proofs.Unfailed.{unfailed}
use Rattle.gptman_plan.proofs.checking.find_both.Goals as goal

pub returns-clause-found : goal.returns-clause-found
returns-clause-found c =
    let a = c.args in
    let made = c.new-disk.ensures in
    let view : zeroed c.new-disk.result.ends ≡ zeroed a.ends.now = λ i. zeroed (made.ends i) in
    found_in (zeroed a.ends.now) a.sector_size c.check.result _ _ view (unfailed c.new-disk.result c.check.new.disk made.torn c.check.ensures.reads) (c.check.ensures.value refl)
