use Rattle.std.proofs.Common.{ℕ, refl, subst}
use Rattle.gptedit_core.specs.Reshaping.{LeavesRoom, TakesStated}
use Rattle.test_laws.specs.Shaped.{EndBefore}
use Rattle.test_laws.proofs.Shaped.{other_count, room, room_in_bytes, taken}
use Rattle.test_laws.proofs.shapes.with_count.Goals as goal

pub returns : goal.returns
returns c =
    let takes : TakesStated c.args.table.now (other_count c.args.entries) c.complete.result =
    taken c.args.table.now (other_count c.args.entries) c.complete.result c.complete.ensures c.stated_values_are_taken.ensures.taken in
    let leaves : LeavesRoom c.args.table.now (other_count c.args.entries) c.complete.result =
    room c.args.table.now (other_count c.args.entries) c.complete.result c.complete.ensures c.complete_shapes_leave_room.ensures.room in
    record {
      entries = takes.entries c.args.entries refl;
      first = λ bytes. subst (λ (n : ℕ). EndBefore n c.args.table.now.sector_size c.complete.result.first_usable) (takes.entries c.args.entries refl)
          (room_in_bytes c.entries_take_the_fewest_sectors.ensures.fewest c.args.table.now c.complete.result c.requires (leaves.first refl) bytes);
      last = leaves.last refl;
    }
