use Prim.Native.Nat.{◌∣◌}
use Rattle.std.proofs.Common.{ℕ, ◌≤◌, ◌<◌}
use Rattle.gptman.proofs.table.align.capped_divisor.Given as goal

abbrev pub invariant-loop-divisor : goal.invariant-loop-divisor
invariant-loop-divisor l = (1 ≤ l.divisor) × (l.divisor ≤ 16384) × ((k : ℕ) → l.divisor < k → k ≤ 16384 → ¬ (k ∣ l.number))

abbrev pub decreases-loop-divisor : goal.decreases-loop-divisor
decreases-loop-divisor l = l.divisor
