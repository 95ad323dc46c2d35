use Rattle.std.proofs.Common.{◌≡◌, rules, max}
use Rattle.gptman.specs.Place.{IsFreeIn}
use Rattle.gptedit_core.proofs.Ends.{end_at, no_end}
use Rattle.gptedit_core.proofs.place.find_end.Goals as goal

pub returns-in-Some : goal.returns-in-Some
returns-in-Some c =
    let is : c.max.result ≡ max c.in-Some.end c.args.last = search rules in
    let far = c.find_far.ensures in
    rw is (end_at (IsFreeIn c.args.table.now) c.args.table.now.align c.args.first c.args.last c.find_far.result far.kept far.free far.ends c.in-Some.end (search rules) c.in-Some.ensures)

pub returns-in-None : goal.returns-in-None
returns-in-None c =
    let far = c.find_far.ensures in
    no_end (IsFreeIn c.args.table.now) c.args.table.now.align c.args.first c.args.last c.find_far.result far.kept far.free far.ends c.in-None.ensures
