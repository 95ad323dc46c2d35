use Rattle.std.proofs.Common.{◌≡◌, ◌*◌, ◌/◌, ap, ◌∙◌, arith, rules}
use Rattle.std.specs.Prelude.{◌≢◌}
use Rattle.std.specs.Int.{div_ceil}
use Rattle.std.proofs.lemmas.Grind.{div_ceil_times}
use Rattle.gptedit_look.proofs.Clears.{usual_iff}
use Rattle.gptedit_look.proofs.clearing.has_usual_entries.Goals as goal

pub returns-then-header-gt1 : goal.returns-then-header-gt1
returns-then-header-gt1 c =
    let h = c.args.header.now in
    let ss = c.args.sector_size in
    let sectors = c.div_ceil-sectors.result in
    let is : sectors ≡ div_ceil (128 * h.count) ss = c.div_ceil-sectors.ensures ∙ ap (λ x. div_ceil (128 * x) ss) c.from.ensures in
    let times = div_ceil_times (128 * h.count) ss c.requires in
    let whole : sectors * ss ≡ div_ceil (128 * h.count) ss * ss = ap (λ x. x * ss) is in
    let other : h.at / ss ≢ 1 = search rules in
    usual_iff h ss sectors c.checked_sub.result c.eq.result (omega (arith, c.if-header-gt-MAX_ENTRY_COUNT.false)) (cc) c.if-header-gt1.true other
    (omega (arith, whole, times.0)) (omega (arith, whole, times.1)) c.checked_sub.ensures c.eq.ensures
