use Rattle.std.proofs.Common.{◌≡◌, ◌++◌, drop}
use Rattle.std.specs.Prelude.{map}
use Rattle.gptedit_core.specs.Matching.{given}
use Rattle.gptedit_core.proofs.matching.given_numbers.Given as goal

abbrev pub invariant-loop-one : goal.invariant-loop-one
invariant-loop-one l = l.found.items ++ map given (drop l.one-index l.asked) ≡ map given l.asked
