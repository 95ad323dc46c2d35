use Rattle.std.proofs.Common.{◌≡◌, ◌++◌, not}
use Rattle.std.specs.List.{filter}
use Rattle.gptedit_core.specs.Sequence.{asks_used}
use Rattle.gptedit_core.proofs.sequence.put_used_first.Given as goal

-- The requests that were taken, with those that are left, are the filtered ones.
abbrev pub invariant-loop-request : goal.invariant-loop-request
invariant-loop-request l =
    (l.first.items ++ filter (asks_used l.fn.table) l.request-iterator.rest.items ≡ filter (asks_used l.fn.table) l.fn.layout.asked.items)
    × (l.others.items ++ filter (λ a. not (asks_used l.fn.table a)) l.request-iterator.rest.items ≡ filter (λ a. not (asks_used l.fn.table a)) l.fn.layout.asked.items)
