use Rattle.std.proofs.Common.{◌<◌, inl, List, length, refl, subst, arith}
use Rattle.std.proofs.lemmas.Result.{err_from_is_err_and}
use Rattle.gptman.specs.Ranges.{Inside}
use Rattle.gptedit_look.specs.Wiped.{ranges_in, IsCleared, IsWiped}
use Rattle.gptedit_look.specs.declared.zeros.Zeroed.{Zeroed}
use Rattle.gptedit_look.proofs.Beside.{only_not}
use Rattle.gptedit_look.proofs.Clears.{on_ok_as, wiped_cleared}
use Rattle.gptedit_look.proofs.clearing.wipe.Goals as goal

pub returns-clause-cleared : goal.returns-clause-cleared
returns-clause-cleared g c = λ honest.
    let new = g.D.Disk.state c.clear_all.new.disk in
    let after = (c.clear_all.ensures.wrote honest).honest in
    let small : length new.view < 18446744073709551616 = omega (arith, (g.met.D.Disk.sound c.clear_all.new.disk after).size, g.met.D.Disk.bounded c.clear_all.new.disk) in
    on_ok_as c.clear_all.result (c.clear_all.ensures.cleared honest) (λ cleared.
    wiped_cleared (IsWiped c.args.look.now) c.in_ok-ranges.ranges.items new c.in_ok-ranges.ensures.adds small
    (subst (λ (rs : List Zeroed). IsCleared (Inside (ranges_in rs)) new) c.deref.ensures.value cleared))

-- ---- an allocation failed: no call was made

pub returns-in_err-ranges-clause-only : goal.returns-in_err-ranges-clause-only
returns-in_err-ranges-clause-only g c = only_not (IsWiped c.args.look.now) (g.D.Disk.state c.args.disk.now) (g.met.D.Disk.sound c.args.disk.now)

pub returns-in_err-ranges-clause-failed : goal.returns-in_err-ranges-clause-failed
returns-in_err-ranges-clause-failed g c =
    let p = err_from_is_err_and c.from_residual.result c.from_residual.ensures.1 in
    rw (p.1, p.2) (inl (c.in_err-ranges.ensures.refused, record { view = refl; pending = refl }))
