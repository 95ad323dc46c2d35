use Rattle.std.proofs.Common.{◌≡◌, take}
use Rattle.std.specs.List.{filter_map}
use Rattle.gptman.specs.Entry.{used_guid}
use Rattle.gptman.proofs.table.checks.used_guids.Given as goal

abbrev pub invariant-loop-entry : goal.invariant-loop-entry
invariant-loop-entry l = l.guids.items ≡ filter_map used_guid (take l.entry-index l.entries)
