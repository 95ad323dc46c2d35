use Rattle.std.proofs.Common.{ℕ, List, rules, subst}
use Rattle.std.specs.List.Sorted.{IsPermutation}
use Rattle.std.proofs.lemmas.List.Sorted.{IsNonDecreasingBy-from_sort_by_key}
use Rattle.gptman.proofs.table.covered.sorted_ranges.Goals as goal

pub returns-clause-whole : goal.returns-clause-whole
returns-clause-whole c = subst (λ (l : List (ℕ × ℕ)). IsPermutation l c.sort_by_key.new.self.items) c.in_ok-ranges.ensures c.in_ok-sort_by_key.ensures.permutation

pub returns-clause-sorted : goal.returns-clause-sorted
returns-clause-sorted c = IsNonDecreasingBy-from_sort_by_key (λ r. r.0) _ c.in_ok-sort_by_key.ensures.sorted (λ a r q k. search rules)
