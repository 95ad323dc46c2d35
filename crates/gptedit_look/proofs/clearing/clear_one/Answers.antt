use Rattle.gptedit_look.specs.Wiped.{IsBeside}
use Rattle.gptedit_look.proofs.Beside.{only_signature, zeros_signature}
use Rattle.gptedit_look.proofs.Clears.{on_ok_as}
use Rattle.gptedit_look.proofs.clearing.clear_one.Goals as goal

pub returns-clause-only : goal.returns-clause-only
returns-clause-only g c =
    only_signature (IsBeside c.args.primary c.args.backup c.args.sector_size c.args.signature.now) c.args.signature.now c.all_of.result.start c.all_of.result.length
    (g.D.Disk.state c.args.disk.now) (g.D.Disk.state c.put_zeros.new.disk) (c.is_beside.ensures.0 c.if-not-is_beside.false) c.all_of.ensures.at c.all_of.ensures.length
    c.put_zeros.ensures.wrote

pub returns-clause-cleared : goal.returns-clause-cleared
returns-clause-cleared g c = λ honest.
    on_ok_as c.put_zeros.result (c.put_zeros.ensures.zeros honest) (λ zeros beside.
    zeros_signature c.args.signature.now c.all_of.result.start c.all_of.result.length (g.D.Disk.state c.put_zeros.new.disk).view c.all_of.ensures.at c.all_of.ensures.length zeros)
