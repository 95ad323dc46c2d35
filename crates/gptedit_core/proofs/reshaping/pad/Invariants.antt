use Rattle.std.proofs.Common.{◌≡◌, ◌+◌, ◌<◌, ◌^◌, ◌++◌, length, replicate}
use Rattle.gptman.specs.Coding.{empty_entry}
use Rattle.gptman.specs.Table.{entries_in}
use Rattle.gptedit_core.proofs.reshaping.pad.Given as goal

abbrev pub invariant-loop : goal.invariant-loop
invariant-loop l = l.entries.items ≡ entries_in l.fn.table ++ replicate l.counter empty_entry
