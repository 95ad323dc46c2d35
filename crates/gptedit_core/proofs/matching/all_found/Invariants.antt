use Rattle.std.proofs.Common.{◌≡◌, List, ◌++◌, drop, length, Ok, Err}
use Rattle.gptedit_core.specs.Matching.{all_found}
use Rattle.gptedit_core.specs.declared.matching.EntryMatch.{EntryMatch}
use Rattle.gptedit_core.specs.declared.refusal.Refusal.{Refusal}
use Rattle.gptedit_core.proofs.matching.all_found.Given as goal

abbrev pub invariant-loop-one : goal.invariant-loop-one
invariant-loop-one l =
    ((rest : List EntryMatch) → all_found (drop l.one-index l.found) ≡ Ok rest → all_found l.found ≡ Ok (l.matches.items ++ rest))
    × ((r : Refusal) → all_found (drop l.one-index l.found) ≡ Err r → all_found l.found ≡ Err r)
    × (length l.matches.items ≡ l.one-index)
