use Rattle.std.proofs.Common.{◌≡◌}
use Rattle.gptman.proofs.Sweeping.{Going}
use Rattle.gptman.proofs.place.sweep.sweep.Given as goal

abbrev pub invariant-loop-range : goal.invariant-loop-range
invariant-loop-range l = Going l.header l.align l.ranges l.range-index l.slots.items l.passed × (l.iterations ≡ l.range-index)
