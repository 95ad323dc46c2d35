use Rattle.std.proofs.Common.{[], ◌∷◌}
use Rattle.gptman.specs.Disk.{DiskState}
use Rattle.gptman.specs.Edit.{edited_all}
use Rattle.gptman.specs.Table.{table_in}
use Rattle.gptman.specs.declared.table.GPT.{GPT}
use Rattle.test_laws.proofs.Edited.{edited_coherent, edited_read, edited_refused, edited_sector, own_copy, still_held}
use Rattle.test_laws.proofs.edits.write_edited.Goals as goal

pub write_into-requires-clause-sector : goal.write_into-requires-clause-sector
write_into-requires-clause-sector g c =
    edited_sector c.edit_lists_keep_places.ensures c.args.table.now c.apply_all.new.self c.args.edits.now c.in_ok-apply_all.ensures.value c.requires.sector

pub write_into-requires-clause-coherent : goal.write_into-requires-clause-coherent
write_into-requires-clause-coherent g c =
    edited_coherent c.edit_lists_keep_places.ensures c.args.table.now c.apply_all.new.self c.args.edits.now c.in_ok-apply_all.ensures.value c.requires.coherent

pub returns-in_err-apply_all-clause-safe : goal.returns-in_err-apply_all-clause-safe
returns-in_err-apply_all-clause-safe g c = λ start read b left known.
    let a : DiskState = g.D.Disk.state c.args.disk.now in
    let table : GPT = c.args.table.now in
    let edited : GPT = edited_all table c.args.edits.now in
    let kept = (own_copy a table c.what_is_read_is_kept.ensures.kept start read).kept in
    c.what_is_held_is_read.ensures b table.sector_size (table_in table ∷ table_in edited ∷ [])
    (still_held a table.sector_size kept.side (table_in table) (table_in edited ∷ []) (g.met.D.Disk.sound c.args.disk.now start.start.honest) start.synced kept.held b left) known

pub returns-clause-safe : goal.returns-clause-safe
returns-clause-safe g c = λ start read.
    edited_read c.edit_lists_keep_places.ensures c.args.table.now c.apply_all.new.self c.args.edits.now c.in_ok-apply_all.ensures.value
    (g.D.Disk.state c.args.disk.now) (g.D.Disk.state c.write_into.new.disk) c.what_is_read_is_kept.ensures.kept start read c.write_into.ensures.read

pub returns-clause-refused : goal.returns-clause-refused
returns-clause-refused g c =
    edited_refused c.edit_lists_keep_places.ensures c.args.table.now c.apply_all.new.self c.args.edits.now c.in_ok-apply_all.ensures.value
    (g.D.Disk.state c.args.disk.now) (g.D.Disk.state c.write_into.new.disk) c.write_into.result c.write_into.ensures.refused
