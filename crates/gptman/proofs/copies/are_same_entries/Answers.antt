use Rattle.std.proofs.Common.{rules}
use Rattle.std.proofs.lemmas.Slice.Eq.{slice_eq-Decides}
use Rattle.gptman.proofs.copies.are_same_entries.Goals as goal

pub returns : goal.returns
returns c = slice_eq-Decides (λ x y. search rules) _ _ _ c.eq.ensures
