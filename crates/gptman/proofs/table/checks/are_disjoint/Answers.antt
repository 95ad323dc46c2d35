use Rattle.std.proofs.Common.{◌≡◌, ℕ, ◌≤◌, List, subst, sym}
use Rattle.std.specs.List.{All, AllPairs}
use Rattle.gptman.specs.Valid.{EndsBefore}
use Rattle.gptman.proofs.Boundaries.{entries_disjoint, are_separate, end_before, ranges_separate}
use Rattle.gptman.proofs.Covered.{ordered_ranges}
use Rattle.gptman.proofs.table.checks.are_disjoint.Goals as goal

pub end_before_next-requires-clause-ordered : goal.end_before_next-requires-clause-ordered
end_before_next-requires-clause-ordered c = subst (λ (l : List (ℕ × ℕ)). All (λ r. r.0 ≤ r.1) l) (sym c.deref.ensures.value) (ordered_ranges c.args.entries.now _ c.in_ok-ranges.ensures.whole)

pub returns : goal.returns
returns c =
    let es = c.args.entries.now in
    let rs = c.in_ok-ranges.ranges.items in
    let p = c.in_ok-ranges.ensures.whole in
    let sorted = c.in_ok-ranges.ensures.sorted in
    let ordered = ordered_ranges es rs p in
    let e : c.deref.result.now ≡ rs = c.deref.ensures.value in
    let both = c.end_before_next.ensures in (
      λ t. entries_disjoint es rs p (are_separate rs (subst (λ (l : List (ℕ × ℕ)). AllPairs EndsBefore l) e (both.0 t))),
      λ disjoint. both.1 (subst (λ (l : List (ℕ × ℕ)). AllPairs EndsBefore l) (sym e) (end_before rs sorted ordered (ranges_separate es rs p disjoint))),
    )
