use Rattle.std.proofs.Common.{◌≡◌, length}
use Rattle.gptedit_core.specs.Matching.{numbered}
use Rattle.gptedit_core.proofs.Matched.{numbering}
use Rattle.gptedit_core.proofs.matching.number_all.Given as goal

abbrev pub invariant-loop-i : goal.invariant-loop-i
invariant-loop-i l = (numbered l.fn.asked.items l.matches ≡ numbering l.asked.items l.matches l.i) × (length l.matches ≡ length l.asked.items)
