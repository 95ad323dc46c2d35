use Rattle.std.proofs.Common.{◌≡◌}
use Rattle.gptedit_core.specs.Matching.{passed}
use Rattle.gptedit_core.proofs.Matched.{progress}
use Rattle.gptedit_core.proofs.matching.seek.Given as goal

abbrev pub invariant-loop-i : goal.invariant-loop-i
invariant-loop-i l =
    passed l.table l.by l.asked l.asked l.fn.found l.fn.free.items ≡ progress l.table l.by l.asked l.asked l.i l.found l.free.items
