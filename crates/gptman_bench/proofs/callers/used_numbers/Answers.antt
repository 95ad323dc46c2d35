use Rattle.std.proofs.Common.{rules}
use Rattle.std.proofs.lemmas.Iterator.{YieldsList-from_map, items_from_collect}
use Rattle.std.proofs.lemmas.Iterator.Consumers.{YieldsList-from_filter, YieldsList-from_first, YieldsList-at}
use Rattle.gptman.specs.Entry.{is_used}
use Rattle.gptman_bench.proofs.callers.used_numbers.Goals as goal

pub returns : goal.returns
returns c =
    items_from_collect _ c.collect.ensures.ran
    (YieldsList-from_map _ (λ p. p.0)
    (YieldsList-at c.map.ensures.source (YieldsList-from_filter _ (λ p. is_used p.1) (YieldsList-at c.filter.ensures.source (YieldsList-from_first (λ p. (p.0, p.1.now)) (λ s. s) _ c.iter.ensures.items)) c.filter.ensures.closure (λ x b q k. search rules)))
    c.map.ensures.closure (λ x r q k. search rules))
