use Rattle.std.proofs.Common.{◌≢◌, ℕ, List, eqb, length, subst, sym}
use Rattle.std.specs.Bool.{Decides}
use Rattle.std.specs.List.{AllPairs}
use Rattle.gptman.proofs.Guids.{distinct_by_count}
use Rattle.gptman.proofs.table.checks.are_distinct.Goals as goal

pub returns : goal.returns
returns c =
    subst (λ (n : ℕ). Decides (eqb n (length c.args.guids.now)) (AllPairs (λ (a b : List ℕ). a ≢ b) c.args.guids.now)) (sym c.len.ensures.len)
    (distinct_by_count c.args.guids.now c.in_ok-set.set c.in_ok-set.ensures)
