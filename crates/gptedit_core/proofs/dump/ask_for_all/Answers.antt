use Rattle.std.proofs.Common.{rules, sym, ◌∙◌, []}
use Rattle.std.proofs.lemmas.List.{append-nil}
use Rattle.gptedit_core.proofs.dump.ask_for_all.Goals as goal

pub returns-clause-value : goal.returns-clause-value
returns-clause-value c = sym (c.loop-number.invariant.2 [] (search rules) ∙ append-nil c.loop-number.asked.items)
