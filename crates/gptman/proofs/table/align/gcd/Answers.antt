use Rattle.std.proofs.Common.{arith}
use Rattle.std.proofs.lemmas.Nat.Gcd.{IsGcd-from_mod, IsGcd-from_zero}
use Rattle.gptman.proofs.table.align.gcd.Goals as goal

pub loop-b-preserved : goal.loop-b-preserved
loop-b-preserved c = λ g h. c.loop-b.invariant g (IsGcd-from_mod c.loop-b.a c.loop-b.b g h)

pub returns : goal.returns
returns c = c.loop-b.invariant c.loop-b.a (IsGcd-from_zero c.loop-b.a c.loop-b.b (omega arith))
