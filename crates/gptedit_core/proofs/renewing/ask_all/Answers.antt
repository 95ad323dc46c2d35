use Rattle.std.proofs.Common.{rules, sym, ◌∙◌, []}
use Rattle.std.proofs.lemmas.List.{append-nil}
use Rattle.gptedit_core.proofs.renewing.ask_all.Goals as goal

pub returns : goal.returns
returns c = sym (c.loop-number.invariant.3 [] (search rules) ∙ append-nil c.loop-number.asked.items)
