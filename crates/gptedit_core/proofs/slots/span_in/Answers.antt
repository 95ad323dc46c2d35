use Rattle.std.proofs.Common.{arith}
use Rattle.gptedit_core.specs.Sectors.{pair_of}
use Rattle.gptedit_core.proofs.Offered.{none_of, place_of}
use Rattle.gptedit_core.proofs.slots.span_in.Goals as goal

pub returns-in_default : goal.returns-in_default
returns-in_default c =
    none_of c.args.choice c.args.table.now c.args.size c.args.slots.now c.requires.chosen c.requires.aligned c.requires.sized c.requires.slots c.in_default.ensures

pub returns : goal.returns
returns c =
    let g = c.args.table.now in
    let n = c.args.size in
    let at = place_of c.args.choice g n c.args.slots.now (pair_of c.in-Some.slot) c.requires.chosen c.requires.aligned c.requires.sized c.requires.slots c.in-Some.ensures in
    (rw c.start_in-first.ensures at.chosen, omega arith)
