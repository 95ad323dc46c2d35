use Rattle.std.proofs.Common.{◌≡◌, ◌≤◌, length, take}
use Rattle.gptman.specs.Alignment.{used_starts}
use Rattle.gptman.proofs.CommonDivisor.{IsGreatestCommonDivisor}
use Rattle.gptman.proofs.table.align.find_alignment.Given as goal

abbrev pub invariant-loop-entry : goal.invariant-loop-entry
invariant-loop-entry l = IsGreatestCommonDivisor (used_starts (take l.entry-index l.entries)) l.common × (l.count ≡ length (used_starts (take l.entry-index l.entries))) × (l.count ≤ l.entry-index)
