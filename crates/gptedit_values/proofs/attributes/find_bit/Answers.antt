use Rattle.std.proofs.Common.{arith, refl, sym, ◌∙◌}
use Rattle.gptedit_values.proofs.Tables.{lacks_all, lacks_first, lacks_next, other_name}
use Rattle.gptedit_values.proofs.attributes.find_bit.Goals as goal

pub loop-attribute-init : goal.loop-attribute-init
loop-attribute-init c = lacks_first _ _

pub loop-attribute-preserved : goal.loop-attribute-preserved
loop-attribute-preserved c =
    lacks_next _ _ _ _ _ c.loop-attribute.invariant (omega arith) (other_name c.args.word.now _ (sym c.if-eq.false ∙ c.eq.ensures))

pub returns-clause-unknown : goal.returns-clause-unknown
returns-clause-unknown c =
    λ _ bit has. lacks_all _ (λ row. row.bit) _ _ _ c.loop-attribute.invariant (omega arith) c.args.word.now bit has refl
