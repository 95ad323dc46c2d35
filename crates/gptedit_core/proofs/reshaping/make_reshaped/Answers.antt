use Rattle.std.proofs.Common.{subst, rules}
use Rattle.std.proofs.lemmas.Result.{err_from_is_err_and}
use Rattle.gptman.specs.declared.table.GPT.{GPT}
use Rattle.gptedit_core.specs.Making.{AreBounds}
use Rattle.gptedit_core.proofs.Anew.{some_empty}
use Rattle.gptedit_core.proofs.Reshaped.{stop_bounds, stop_done}
use Rattle.gptedit_core.proofs.reshaping.make_reshaped.Goals as goal

pub returns-in_err-refuse_bounds-clause-refused : goal.returns-in_err-refuse_bounds-clause-refused
returns-in_err-refuse_bounds-clause-refused c =
    let p = err_from_is_err_and c.from_residual.result c.from_residual.ensures.1 in
    let was = c.args.was.now in
    let empty = some_empty c.args.reshaped.now.shape.entries was.header.disk_guid was.sector_size c.args.size c.args.empty c.in-Some.empty c.in-Some.is c.requires.empty in
    rw (p.1, p.2)
    (stop_bounds c.args.reshaped.now c.args.size was c.in-Some.empty (c.has_layout.ensures.0 (search rules)) empty.0 empty.1 _ c.in_err-refuse_bounds.ensures.refused)

pub returns-in_err-mid-clause-refused : goal.returns-in_err-mid-clause-refused
returns-in_err-mid-clause-refused c =
    let p = err_from_is_err_and c.from_residual-in_err-mid.result c.from_residual-in_err-mid.ensures.1 in
    let was = c.args.was.now in
    let form = c.args.reshaped.now.shape in
    let empty = some_empty form.entries was.header.disk_guid was.sector_size c.args.size c.args.empty c.in-Some.empty c.in-Some.is c.requires.empty in
    let bounds =
    subst (λ (m : GPT). AreBounds m.header.first_usable_lba m.header.last_usable_lba form.first_usable form.last_usable) empty.1 (c.in_ok-refuse_bounds.ensures.bounds (search rules)) in
    rw (p.1, p.2)
    (stop_done c.args.reshaped.now c.args.size was (c.has_layout.ensures.0 (search rules)) empty.0 bounds _ c.in_err-mid.ensures.refused)

pub finish-requires-clause-layout : goal.finish-requires-clause-layout
finish-requires-clause-layout c = c.has_layout.ensures.0 (search rules)
