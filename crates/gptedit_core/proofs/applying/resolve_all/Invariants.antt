use Rattle.std.proofs.Common.{◌≡◌, List, ◌++◌, drop, length, Ok, Err}
use Rattle.gptedit_core.specs.Resolving.{resolved_all}
use Rattle.gptedit_core.specs.declared.refusal.Refusal.{Refusal}
use Rattle.gptedit_core.specs.declared.resolve.ResolvedPartition.{ResolvedPartition}
use Rattle.gptedit_core.proofs.applying.resolve_all.Given as goal

abbrev pub invariant-loop-i : goal.invariant-loop-i
invariant-loop-i l =
    ((rest : List ResolvedPartition) → resolved_all l.fn.table l.fn.mode (drop l.i l.fn.asked) (drop l.i l.fn.random) ≡ Ok rest
    → resolved_all l.fn.table l.fn.mode l.fn.asked l.fn.random ≡ Ok (l.partitions.items ++ rest))
    × ((r : Refusal) → resolved_all l.fn.table l.fn.mode (drop l.i l.fn.asked) (drop l.i l.fn.random) ≡ Err r
    → resolved_all l.fn.table l.fn.mode l.fn.asked l.fn.random ≡ Err r)
    × (length l.partitions.items ≡ l.i)
