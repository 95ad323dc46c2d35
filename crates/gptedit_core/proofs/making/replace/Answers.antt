use Rattle.std.proofs.Common.{ℕ, refl, sym, subst, rules}
use Rattle.std.proofs.lemmas.Result.{err_from_is_err_and}
use Rattle.gptman.specs.declared.table.GPT.{GPT}
use Rattle.gptedit_core.specs.Making.{HasOrder, IsNew}
use Rattle.gptedit_core.specs.Making.RefusesRemaking.{no_order, not_laid_out}
use Rattle.gptedit_core.proofs.Anew.{some_sector, stop_remade}
use Rattle.gptedit_core.proofs.Bounded.{layout_other, new_layout}
use Rattle.gptedit_core.proofs.Remade.{refuted}
use Rattle.gptedit_core.proofs.making.replace.Goals as goal

pub returns-then-not-may_be_replaced-clause-refused : goal.returns-then-not-may_be_replaced-clause-refused
returns-then-not-may_be_replaced-clause-refused c = not_laid_out (refuted c.may_be_replaced.result (search rules) c.may_be_replaced.ensures) refl

pub returns-in_err-made-clause-refused : goal.returns-in_err-made-clause-refused
returns-in_err-made-clause-refused c =
    let p = err_from_is_err_and c.from_residual.result c.from_residual.ensures.1 in
    let sector = some_sector c.args.creation.now c.args.was.now.sector_size c.args.size c.args.empty c.in-Some.empty c.in-Some.is c.requires.empty in
    rw (p.1, p.2)
    (stop_remade c.args.creation.now c.args.size c.in-Some.empty.sector_size c.args.was.now (c.may_be_replaced.ensures.0 (search rules)) sector _ c.in_err-made.ensures.refused)

pub put_in_form-next-requires : goal.put_in_form-next-requires
put_in_form-next-requires c =
    layout_other c.in_ok-made.made c.args.size (new_layout c.args.creation.now c.in-Some.empty.sector_size c.args.size c.in_ok-made.made c.in_ok-made.ensures.planned)

pub returns-then-not-has_order-clause-refused : goal.returns-then-not-has_order-clause-refused
returns-then-not-has_order-clause-refused c =
    let creation = c.args.creation.now in
    let was = c.args.was.now in
    let sector = some_sector creation was.sector_size c.args.size c.args.empty c.in-Some.empty c.in-Some.is c.requires.empty in
    no_order c.in_ok-made.made (c.may_be_replaced.ensures.0 (search rules))
    (subst (λ (n : ℕ). IsNew creation n c.args.size c.in_ok-made.made) sector c.in_ok-made.ensures.planned)
    (λ order. refuted c.has_order.result (search rules) c.has_order.ensures
    (subst (λ (m : GPT). HasOrder creation.may_lose was m c.args.size) (sym c.put_in_form-next.ensures) order)) refl
