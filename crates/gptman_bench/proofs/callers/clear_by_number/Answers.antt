use Rattle.gptman.proofs.Mapping.{entry_mapped}
use Rattle.gptman_bench.specs.Cleared.{cleared}
use Rattle.gptman_bench.proofs.callers.clear_by_number.Goals as goal

pub loop-k-preserved : goal.loop-k-preserved
loop-k-preserved c = entry_mapped cleared _ _ _ _ c.loop-k.invariant c.index_mut.ensures.value
