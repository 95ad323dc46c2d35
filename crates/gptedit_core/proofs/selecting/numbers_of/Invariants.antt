use Rattle.std.proofs.Common.{drop}
use Rattle.gptedit_core.proofs.Selected.{Finds}
use Rattle.gptedit_core.proofs.selecting.numbers_of.Given as goal

abbrev pub invariant-loop-target : goal.invariant-loop-target
invariant-loop-target l = Finds l.fn.table (drop l.target-index l.targets) l.numbers.items l.targets
