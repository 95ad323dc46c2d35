use Rattle.std.proofs.Common.{◌∷◌, [], refl, subst, arith}
use Rattle.std.specs.Prelude.{Some, replicate}
use Rattle.std.proofs.lemmas.Result.{on_ok_weaker}
use Rattle.gptedit_core.specs.Resolving.{nothing_of}
use Rattle.gptedit_core.specs.declared.asked.Asked.{Asked}
use Rattle.gptedit_core.specs.declared.asked.RequestedLayout.{RequestedLayout}
use Rattle.gptedit_core.specs.declared.asked.Size.TheVariants.{Rest}
use Rattle.test_laws.specs.Changed.{IsChangeOf}
use Rattle.test_laws.proofs.Changed.{lengthened, others_stay}
use Rattle.test_laws.proofs.layouts.lengthen.Goals as goal

pub returns-clause-lengthened : goal.returns-clause-lengthened
returns-clause-lengthened c =
    let asked : Asked = record (nothing_of (Some c.args.number)) { size = Some Rest } in
    let layout : RequestedLayout = c.in_ok-layout.layout in
    let change : IsChangeOf asked c.args.align layout = subst (λ (a : Asked). IsChangeOf (record a { size = Some Rest }) c.args.align layout) c.nothing.ensures c.in_ok-layout.ensures in
    on_ok_weaker c.apply_layout.result
    (λ laid. lengthened asked c.args.align c.args.number layout (replicate 16 0 ∷ []) c.args.table.now c.apply_layout.new.table change refl (omega arith) laid c.layouts_only_lengthen.ensures refl refl)
    c.apply_layout.ensures.planned

pub returns-clause-others : goal.returns-clause-others
returns-clause-others c =
    let asked : Asked = record (nothing_of (Some c.args.number)) { size = Some Rest } in
    let layout : RequestedLayout = c.in_ok-layout.layout in
    let change : IsChangeOf asked c.args.align layout = subst (λ (a : Asked). IsChangeOf (record a { size = Some Rest }) c.args.align layout) c.nothing.ensures c.in_ok-layout.ensures in
    on_ok_weaker c.apply_layout.result
    (λ laid. others_stay asked c.args.align c.args.number layout (replicate 16 0 ∷ []) c.args.table.now c.apply_layout.new.table change refl (omega arith) laid c.layouts_change_what_they_name.ensures)
    c.apply_layout.ensures.planned
