use Rattle.std.proofs.Common.{◌∷◌, [], refl, subst, arith}
use Rattle.std.specs.Prelude.{Some, replicate}
use Rattle.std.proofs.lemmas.Result.{on_ok_weaker}
use Rattle.gptedit_core.specs.declared.asked.Asked.{Asked}
use Rattle.gptedit_core.specs.declared.asked.RequestedLayout.{RequestedLayout}
use Rattle.test_laws.specs.Changed.{IsChangeOf}
use Rattle.test_laws.proofs.Changed.{others_stay, renamed, renaming}
use Rattle.test_laws.proofs.layouts.rename.Goals as goal

pub returns-clause-renamed : goal.returns-clause-renamed
returns-clause-renamed c =
    let layout : RequestedLayout = c.in_ok-layout.layout in
    let change : IsChangeOf (renaming c.args.number c.args.name) 1 layout = subst (λ (a : Asked). IsChangeOf (record a { name = Some c.args.name }) 1 layout) c.nothing.ensures c.in_ok-layout.ensures in
    on_ok_weaker c.apply_layout.result
    (λ laid. renamed 1 c.args.number c.args.name layout (replicate 16 0 ∷ []) c.args.table.now c.apply_layout.new.table change (omega arith) laid c.layouts_change_what_they_name.ensures)
    c.apply_layout.ensures.planned

pub returns-clause-others : goal.returns-clause-others
returns-clause-others c =
    let asked : Asked = renaming c.args.number c.args.name in
    let layout : RequestedLayout = c.in_ok-layout.layout in
    let change : IsChangeOf asked 1 layout = subst (λ (a : Asked). IsChangeOf (record a { name = Some c.args.name }) 1 layout) c.nothing.ensures c.in_ok-layout.ensures in
    on_ok_weaker c.apply_layout.result
    (λ laid. others_stay asked 1 c.args.number layout (replicate 16 0 ∷ []) c.args.table.now c.apply_layout.new.table change refl (omega arith) laid c.layouts_change_what_they_name.ensures)
    c.apply_layout.ensures.planned
