use Rattle.std.proofs.Common.{refl}
use Rattle.gptedit_core.specs.Reshaping.{TakesStated}
use Rattle.test_laws.proofs.Shaped.{other_bounds, taken}
use Rattle.test_laws.proofs.shapes.with_bounds.Goals as goal

pub returns : goal.returns
returns c =
    let takes : TakesStated c.args.table.now (other_bounds c.args.first c.args.last) c.complete.result =
    taken c.args.table.now (other_bounds c.args.first c.args.last) c.complete.result c.complete.ensures c.stated_values_are_taken.ensures.taken in
    record { entries = takes.count refl; first = takes.first c.args.first refl; last = takes.last c.args.last refl }
