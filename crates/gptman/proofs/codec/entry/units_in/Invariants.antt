use Rattle.std.proofs.Common.{◌≡◌, ℕ, ◌+◌, ◌*◌, ◌<◌, get_or, slice_range}
use Rattle.gptman_disk.specs.Bytes.{le}
use Rattle.gptman.proofs.codec.entry.units_in.Given as goal

abbrev pub invariant-loop-k : goal.invariant-loop-k
invariant-loop-k l = (k : ℕ) → k < l.k → get_or l.unit-items k 0 ≡ le (slice_range l.bytes (56 + 2 * k) (56 + 2 * k + 2))
