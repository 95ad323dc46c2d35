use Rattle.std.proofs.Common.{◌≡◌}
use Rattle.gptman.proofs.Mapping.{mapped_to}
use Rattle.gptman.specs.Number.{with_entries}
use Rattle.gptman.specs.Table.{entries_in}
use Rattle.gptman_bench.specs.Cleared.{cleared}
use Rattle.gptman_bench.proofs.callers.clear_by_number.Given as goal

abbrev pub invariant-loop-k : goal.invariant-loop-k
invariant-loop-k l = l.table ≡ with_entries l.initial.table (mapped_to cleared l.k (entries_in l.initial.table))
