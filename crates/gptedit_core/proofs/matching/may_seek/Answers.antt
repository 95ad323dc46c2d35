use Rattle.std.proofs.Common.{◌∙◌, ap, sym}
use Rattle.gptedit_core.specs.Matching.{is_only_name, may_seek}
use Rattle.gptedit_core.specs.declared.matching.MatchedBy.{MatchedBy}
use Rattle.gptedit_core.proofs.matching.may_seek.Goals as goal

pub returns-in-Name : goal.returns-in-Name
returns-in-Name c =
    let g = c.args.table.now in
    c.is_only_name.ensures ∙ ap (is_only_name g c.args.all.now) c.name_asked.ensures
    ∙ ap (λ (by : MatchedBy). may_seek g by c.args.all.now c.args.asked.now) (sym c.in-Name.is)
