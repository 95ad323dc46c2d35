use Rattle.std.proofs.Common.{rules}
use Rattle.std.proofs.lemmas.Slice.Eq.{slice_eq-Decides}
use Rattle.gptman.proofs.table.entries.same_entries.Goals as goal

pub returns-clause-decides : goal.returns-clause-decides
returns-clause-decides c = slice_eq-Decides (λ x y. search rules) _ _ _ c.eq.ensures
