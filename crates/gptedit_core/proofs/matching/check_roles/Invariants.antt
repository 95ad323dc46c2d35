use Rattle.std.proofs.Common.{◌≡◌, drop}
use Rattle.gptedit_core.specs.Matching.{role_fault}
use Rattle.gptedit_core.proofs.matching.check_roles.Given as goal

abbrev pub invariant-loop-i : goal.invariant-loop-i
invariant-loop-i l = role_fault l.table (drop l.i l.asked) (drop l.i l.matches) ≡ role_fault l.table l.asked l.matches
