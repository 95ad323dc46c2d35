use Rattle.std.proofs.Common.{◌≡◌, drop}
use Rattle.gptedit_core.specs.Matching.{highest}
use Rattle.gptedit_core.proofs.matching.highest.Given as goal

abbrev pub invariant-loop-one : goal.invariant-loop-one
invariant-loop-one l = highest (drop l.one-index l.found) l.last ≡ highest l.found 0
