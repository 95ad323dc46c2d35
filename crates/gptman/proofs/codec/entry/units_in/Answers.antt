use Rattle.std.proofs.Common.{ℕ, ◌+◌, ◌*◌, arith, slice_range}
use Rattle.std.proofs.lemmas.List.FromFn.{fill_by_all}
use Rattle.gptman_disk.specs.Bytes.{le}
use Rattle.gptman.specs.Coding.{units_at}
use Rattle.gptman.proofs.codec.entry.units_in.Goals as goal

pub returns : goal.returns
unfolding units_at
returns c =
    fill_by_all (λ (k : ℕ). le (slice_range c.args.bytes.now (56 + 2 * k) (56 + 2 * k + 2))) c.loop-k.unit-items 36 0 (omega arith)
    (λ k h. c.loop-k.invariant k (omega arith))
