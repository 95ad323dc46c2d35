use Rattle.gptedit_look.proofs.Pieces.{table_touched}
use Rattle.gptedit_look.proofs.touched.touched_by.Goals as goal

pub returns-clause-inside : goal.returns-clause-inside
returns-clause-inside c =
    table_touched (record { own = c.own_of.result; other = c.other_of.result }) c.args.next.now c.args.size c.own_of.ensures.inside c.other_of.ensures.inside
