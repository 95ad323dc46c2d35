use Rattle.std.proofs.lemmas.Bool.Decides.{Decides-at}
use Rattle.gptman.proofs.Equal.{table_decides}
use Rattle.gptman_bench.proofs.callers.are_equal.Goals as goal

pub returns : goal.returns
returns c = Decides-at _ _ c.eq.ensures (table_decides c.args.a.now c.args.b.now)
