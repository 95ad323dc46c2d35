use Rattle.std.proofs.Common.{◌≡◌, take}
use Rattle.gptedit_values.proofs.Tables.{Lacks}
use Rattle.gptedit_values.proofs.attributes.find_bit.Given as goal

abbrev pub invariant-loop-attribute : goal.invariant-loop-attribute
invariant-loop-attribute l = Lacks (λ row. row.name.now) (λ name. l.word ≡ name) (take l.attribute-index l.attribute-items)
