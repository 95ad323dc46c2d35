use Rattle.std.proofs.Common.{◌≡◌, ◌∙◌, rules, sym, zero-add}
use Rattle.std.specs.Prelude.{count_by}
use Rattle.gptman.specs.Table.{entries_in}
use Rattle.gptedit_core.specs.Matching.{is_used_as}
use Rattle.gptedit_core.proofs.Matched.{counted, counted_all}
use Rattle.gptedit_core.proofs.matching.count_used.Goals as goal

pub returns : goal.returns
returns c =
    let has = is_used_as c.args.name.now in
    let es = entries_in c.args.table.now in
    let last : counted has c.loop-entry.count c.loop-entry.entry-iterator ≡ c.loop-entry.count = search rules in
    sym last ∙ c.loop-entry.invariant.2 ∙ counted_all has 0 1 es ∙ zero-add (count_by has es)
