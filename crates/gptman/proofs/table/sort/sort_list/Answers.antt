use Rattle.std.proofs.lemmas.Result.{on_ok_weaker}
use Rattle.gptman.proofs.Sorting.{sorted_is}
use Rattle.gptman.specs.Order.{rank}
use Rattle.gptman.proofs.table.sort.sort_list.Goals as goal

pub returns-clause-value : goal.returns-clause-value
returns-clause-value c = on_ok_weaker c.sort_stably.result (λ up. sorted_is rank _ _ up c.sort_stably.ensures.stable) c.sort_stably.ensures.sorted
