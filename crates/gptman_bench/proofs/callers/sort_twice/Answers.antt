use Rattle.std.proofs.Common.{◌∙◌, ap}
use Rattle.std.proofs.lemmas.Result.{on_ok_weaker}
use Rattle.gptman.specs.Number.{with_entries}
use Rattle.gptman.specs.Order.{by_rank, rank}
use Rattle.gptman.specs.Table.{entries_in}
use Rattle.gptman.specs.declared.table.GPT.{GPT}
use Rattle.gptman.proofs.Sorting.{by_rank_twice}
use Rattle.gptman_bench.proofs.callers.sort_twice.Goals as goal

pub returns : goal.returns
returns c =
    on_ok_weaker c.sort-2.result
    (λ twice. twice ∙ ap (λ (g : GPT). with_entries g (by_rank rank (entries_in g))) c.in_ok-sort.ensures.value ∙ ap (with_entries c.args.table.now) (by_rank_twice rank (entries_in c.args.table.now)))
    c.sort-2.ensures.value
