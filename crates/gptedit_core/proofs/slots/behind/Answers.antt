use Rattle.std.proofs.Common.{arith, rules}
use Rattle.gptedit_core.specs.Sectors.{pair_of}
use Rattle.gptedit_core.proofs.Cuts.{behind_found, behind_gone}
use Rattle.gptedit_core.proofs.slots.behind.Goals as goal

pub returns-then-skipped-end : goal.returns-then-skipped-end
returns-then-skipped-end c =
    behind_found c.args.align c.args.last c.last-end.result (pair_of c.args.slot) c.max-from.result c.skip-skipped.result c.requires.aligned c.skip-skipped.ensures (search rules) c.last-end.ensures
    (omega arith) (omega arith)

pub returns-else-skipped-end : goal.returns-else-skipped-end
returns-else-skipped-end c =
    behind_gone c.args.align c.args.last c.last-end.result (pair_of c.args.slot) c.max-from.result c.skip-skipped.result c.requires.aligned c.skip-skipped.ensures (search rules) c.last-end.ensures
    (omega arith) (omega arith)
