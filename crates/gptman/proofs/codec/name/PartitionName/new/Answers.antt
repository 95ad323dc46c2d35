use Rattle.std.proofs.Common.{◌≡◌, ℕ, List, [], ◌∷◌, map, refl, ap, sym, ◌∙◌}
use Rattle.std.proofs.lemmas.Iterator.{YieldsList-from_chars}
use Rattle.std.proofs.lemmas.Iterator.Consumers.{YieldsList-end}
use Rattle.gptman.specs.Name.{units_of}
use Rattle.gptman.proofs.codec.name.PartitionName.new.Goals as goal

map_itself : (xs : List ℕ) → map (λ x. x) xs ≡ xs
map_itself [] = refl
map_itself (x ∷ xs) = ap (λ (ys : List ℕ). x ∷ ys) (map_itself xs)

pub returns-clause-units : goal.returns-clause-units
returns-clause-units c =
    let t = YieldsList-end (YieldsList-from_chars c.args.text.now c.utf8.text cc) c.loop-c.yielded _ c.loop-c.yielded_by _ _ c.in-None.is c.next.ensures.steps in
    c.loop-c.invariant.are ∙ ap units_of (sym (map_itself c.loop-c.yielded) ∙ t.0)
