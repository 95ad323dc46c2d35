use Rattle.std.proofs.Common.{ℕ, ◌+◌, ◌<◌, get_or}
use Rattle.gptman.specs.Valid.{EndsBefore}
use Rattle.gptman.proofs.table.checks.end_before_next.Given as goal

abbrev pub invariant-loop-i : goal.invariant-loop-i
invariant-loop-i l = (k : ℕ) → k + 1 < l.i → EndsBefore (get_or l.ranges k (0, 0)) (get_or l.ranges (k + 1) (0, 0))
