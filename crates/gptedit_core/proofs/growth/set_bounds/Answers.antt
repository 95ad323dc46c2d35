use Rattle.std.proofs.Common.{◌≡◌, ◌∙◌, true, ap, subst}
use Rattle.gptman.specs.declared.table.GPT.{GPT}
use Rattle.gptedit_core.specs.Growing.{with_first, IsKeptFirst}
use Rattle.gptedit_core.specs.Growing.IsFitted.{follows}
use Rattle.gptedit_core.proofs.growth.set_bounds.Goals as goal

pub returns-in-Kept-2-clause-value : goal.returns-in-Kept-2-clause-value
returns-in-Kept-2-clause-value c =
    let first = c.keep_first.new.table.header.first_usable_lba in
    let fitted = c.requires.fitted in
    follows c.in-Kept-2.is
    (λ ends. let yes : c.ends_at-ends.result ≡ true = c.ends_at-ends.ensures.1 ends in absurd (cc))
    first
    (subst (λ (m : GPT). IsKeptFirst c.args.was.now.header.first_usable_lba m.header.first_usable_lba m.header.last_usable_lba first) fitted c.keep_first.ensures.kept)
    (c.keep_first.ensures.rest ∙ ap (with_first first) fitted)
