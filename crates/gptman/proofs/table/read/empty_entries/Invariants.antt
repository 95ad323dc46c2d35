use Rattle.std.proofs.Common.{◌≡◌, replicate}
use Rattle.gptman.specs.Coding.{empty_entry}
use Rattle.gptman.proofs.table.read.empty_entries.Given as goal

abbrev pub invariant-loop : goal.invariant-loop
invariant-loop l = l.partitions.items ≡ replicate l.counter empty_entry
