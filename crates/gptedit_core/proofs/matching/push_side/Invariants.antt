use Rattle.std.proofs.Common.{◌≡◌, ◌++◌, drop}
use Rattle.std.specs.List.{filter}
use Rattle.gptedit_core.specs.Matching.{is_on_side}
use Rattle.gptedit_core.proofs.matching.push_side.Given as goal

abbrev pub invariant-loop-number : goal.invariant-loop-number
invariant-loop-number l =
    l.numbers.items ++ filter (is_on_side l.fn.after l.fn.last) (drop l.number-index l.free) ≡ l.fn.numbers.items ++ filter (is_on_side l.fn.after l.fn.last) l.free
