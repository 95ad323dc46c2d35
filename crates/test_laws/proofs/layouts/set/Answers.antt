use Rattle.std.proofs.Common.{◌∷◌, [], arith}
use Rattle.std.proofs.lemmas.Result.{on_ok_weaker}
use Rattle.test_laws.proofs.Set.{one_asked}
use Rattle.test_laws.proofs.layouts.set.Goals as goal

pub apply_layout-requires-clause-random : goal.apply_layout-requires-clause-random
apply_layout-requires-clause-random c =
    let one = one_asked c.args.table.now c.args.number c.args.setting.now c.args.random c.in_ok-layout.layout c.in_ok-layout.ensures.laid in
    omega (arith, one)

pub returns : goal.returns
returns c = record {
  set = on_ok_weaker c.apply_layout.result
      (λ laid. c.settings_change_one_entry.ensures c.args.table.now c.apply_layout.new.table c.args.number c.args.setting.now c.args.random c.in_ok-layout.layout (c.args.random ∷ [])
      c.in_ok-layout.ensures.laid (omega arith) laid)
      c.apply_layout.ensures.planned;
}
