use Rattle.std.proofs.Common.{◌≡◌, take}
use Rattle.std.specs.List.{filter_map}
use Rattle.gptman.specs.Entry.{covered_range}
use Rattle.gptman.proofs.table.covered.covered_ranges.Given as goal

abbrev pub invariant-loop-entry : goal.invariant-loop-entry
invariant-loop-entry l = l.ranges.items ≡ filter_map covered_range (take l.entry-index l.entries)
