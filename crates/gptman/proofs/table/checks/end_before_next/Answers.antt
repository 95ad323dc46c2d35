use Rattle.std.proofs.Common.{refl, arith}
use Rattle.gptman.proofs.Boundaries.{all_end_before}
use Rattle.gptman.proofs.table.checks.end_before_next.Goals as goal

pub returns : goal.returns
returns c = (λ _. all_end_before c.args.ranges.now c.requires.sorted (λ k h. c.loop-i.invariant k (omega arith)), λ _. refl)
