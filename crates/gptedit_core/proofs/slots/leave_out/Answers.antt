use Rattle.std.proofs.Common.{arith, rules}
use Rattle.gptedit_core.proofs.Offered.{kept_after}
use Rattle.gptedit_core.proofs.slots.leave_out.Goals as goal

pub cut-requires-clause-kept : goal.cut-requires-clause-kept
cut-requires-clause-kept c = (c.args.table.now, search rules)

pub returns : goal.returns
returns c =
    let g = c.args.table.now in
    let e = c.args.entry.now in
    kept_after g c.args.align c.args.number e c.in-Some.slots.items c.in_ok-cut.field-0.items c.requires.aligned c.requires.number c.requires.unused (search rules) (omega arith) (search rules)
    c.in_ok-cut.ensures
