use Rattle.std.proofs.Common.{refl}
use Rattle.gptedit_look.proofs.Clears.{adds_range}
use Rattle.gptedit_look.proofs.clearing.push_range.Goals as goal

pub returns-clause-adds : goal.returns-clause-adds
returns-clause-adds c =
    adds_range c.args.ranges.now.items c.push.new.self.items c.args.start c.args.length (record { start = c.args.start; length = c.args.length }) refl refl c.in_ok-push.ensures.items
