-- A list that is completely overwritten.
use Rattle.std.proofs.Common.{◌≡◌, ◌≤◌, List, length, arith, take_all}
use Rattle.std.proofs.lemmas.List.{take-append-le}
use Rattle.gptman.specs.Number.{written_over}

pub written_over_same : {X : Type 0} (xs ws : List X) → length ws ≡ length xs → written_over xs ws ≡ ws
written_over_same xs ws e = let h : length xs ≤ length ws = omega arith in rw take-append-le (take_all (length xs) ws (omega arith))
