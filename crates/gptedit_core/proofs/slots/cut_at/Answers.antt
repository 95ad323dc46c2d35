use Rattle.std.proofs.Common.{arith, rules}
use Rattle.std.proofs.lemmas.Grind.{common_steps}
use Rattle.gptedit_core.proofs.Cuts.{put_rest}
use Rattle.gptedit_core.proofs.slots.cut_at.Goals as goal

pub returns : goal.returns
returns c =
    put_rest c.args.align c.args.first c.args.last c.args.slots.items c.args.i c.remove-slot.result c.before-2.result c.behind.result c.insert_some-2.new.slots.items (search rules)
    (search rules) c.before-2.ensures c.behind.ensures (grind (arith, common_steps))
