use Rattle.std.proofs.Common.{refl, sym, subst}
use Rattle.gptedit_core.specs.Reshaping.{HasShape}
use Rattle.gptedit_core.specs.declared.reshaping.Shape.{Shape}
use Rattle.test_laws.proofs.Shaped.{nothing}
use Rattle.test_laws.proofs.shapes.own_shape.Goals as goal

pub returns : goal.returns
returns c =
    subst (λ (shape : Shape). HasShape shape c.args.table.now) (sym c.complete.ensures)
    (c.nothing_stated_is_kept.ensures.kept c.args.table.now nothing refl refl refl c.requires.count)
