use Rattle.std.proofs.Common.{rules}
use Rattle.std.proofs.lemmas.List.Sorted.{answers_always, IsNonDecreasingBy-from_sort}
use Rattle.std.proofs.lemmas.Result.{on_ok_weaker}
use Rattle.gptman.specs.Order.{rank}
use Rattle.gptman.proofs.table.sort.sort_stably.Goals as goal

pub returns-clause-sorted : goal.returns-clause-sorted
returns-clause-sorted c =
    on_ok_weaker c.sort_by_key.result (λ h. IsNonDecreasingBy-from_sort rank _ (h rank (answers_always _ _ _ (λ f a r g h. search rules)))) c.sort_by_key.ensures.sorted

pub returns-clause-stable : goal.returns-clause-stable
returns-clause-stable c = c.sort_by_key.ensures.stable rank (answers_always _ _ _ (λ f a r g h. search rules))
