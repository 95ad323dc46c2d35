use Rattle.std.proofs.Common.{◌≡◌, [], ◌∷◌, take}
use Rattle.std.specs.Option.{option_map_or}
use Rattle.gptedit_values.proofs.Tables.{Lacks}
use Rattle.gptedit_values.proofs.attributes.find_sfdisk_bit.Given as goal

-- A row is told by `1 ∷ name` if it has a name in `sfdisk`, and by [] if not.
abbrev pub invariant-loop-attribute : goal.invariant-loop-attribute
invariant-loop-attribute l =
    Lacks (λ row. option_map_or (λ name. 1 ∷ name.now) row.sfdisk []) (λ key. 1 ∷ l.word ≡ key) (take l.attribute-index l.attribute-items)
