use Rattle.gptman.specs.Write.{other_header}
use Rattle.gptedit_look.proofs.Pieces.{copy_touched_as, copy_touched_in}
use Rattle.gptedit_look.proofs.touched.other_of.Goals as goal

pub returns-clause-inside : goal.returns-clause-inside
returns-clause-inside c =
    copy_touched_in _ (other_header c.args.header.now) c.args.sector_size c.args.size (copy_touched_as _ _ _ _ _ _ _ _ _ (cc) c.start_of_others.ensures (cc) c.cut.ensures.inside c.cut-2.ensures.inside)
