use Rattle.std.proofs.Common.{◌+◌, arith}
use Rattle.gptedit_core.specs.Reshaping.{last_sector_of, IsFirstFor, IsLastFor}
use Rattle.test_laws.proofs.Shaped.{doubled_first, doubled_last}
use Rattle.test_laws.proofs.shapes.double.Goals as goal

pub returns : goal.returns
returns c =
    let is_first : IsFirstFor 32 64 c.args.table.now.header.first_usable_lba c.complete.result.first_usable =
    doubled_first c.args.table.now c.complete.result c.complete.ensures c.requires.sector c.requires.count
    c.stated_values_are_taken.ensures.taken c.complete_shapes_move_with_entries.ensures.moved in
    let is_last : IsLastFor (last_sector_of c.args.table.now) 32 64 c.args.table.now.header.last_usable_lba c.complete.result.last_usable =
    doubled_last c.args.table.now c.complete.result c.complete.ensures c.requires.sector c.requires.count
    c.stated_values_are_taken.ensures.taken c.complete_shapes_move_with_entries.ensures.moved in
    record {
      first = λ next. is_first.next next;
      last = λ next fits. omega (arith, is_last.next);
      first_apart = λ at. omega (arith, is_first.apart);
      last_apart = λ apart. is_last.apart (omega arith) (omega arith) (omega arith);
    }
