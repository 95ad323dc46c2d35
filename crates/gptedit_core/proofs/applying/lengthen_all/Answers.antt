use Rattle.std.proofs.Common.{◌∙◌, ◌+◌, ap, arith, drop, get_or, sym, subst}
use Rattle.gptman.specs.Coding.{empty_entry}
use Rattle.gptman.specs.declared.table.GPT.{GPT}
use Rattle.gptedit_core.specs.Applying.{rest_numbers, AreExtended, IsExtended}
use Rattle.gptedit_core.specs.declared.place.Place.TheVariants.{Longest}
use Rattle.gptedit_core.proofs.Extended.{more_extended, none_extended}
use Rattle.gptedit_core.proofs.applying.lengthen_all.Goals as goal
use Rattle.gptedit_core.proofs.applying.lengthen_all.Goals.{then-asks_rest, else-asks_rest}

pub loop-i-preserved : goal.loop-i-preserved
loop-i-preserved c =
    let asked = c.args.asked.now in
    let ps = c.args.partitions.now in
    let i = c.loop-i.i in
    let a = c.index-asked-i.result in
    let below = c.loop-i-test.true in
    let long = c.requires.long in
    elim c.if-asks_rest.branch [
      | then-asks_rest w ↦
          let p = w.index-partitions-i.result in
          let one = subst (λ (m : GPT). IsExtended (get_or ps i p).number c.loop-i.table m) (sym w.table-is) w.lengthen.ensures.lengthened in (
            λ final rest. c.loop-i.invariant.0 final
                (more_extended asked ps i a p below (omega (arith, below, long)) c.loop-i.table c.if-asks_rest.table final (sym c.asks_rest.ensures ∙ w.if-asks_rest.true) one rest),
            ap (λ (m : GPT). m.align) w.table-is ∙ (w.lengthen.ensures.align ∙ c.loop-i.invariant.1),
          )
      | else-asks_rest w ↦ (
        λ final rest. c.loop-i.invariant.0 final
            (none_extended asked ps i a (record { number = 0; entry = empty_entry; place = Longest }) below (omega (arith, below, long)) c.loop-i.table final
            (sym c.asks_rest.ensures ∙ w.if-asks_rest.false)
            (subst (λ (m : GPT). AreExtended (rest_numbers (drop (i + 1) asked) (drop (i + 1) ps)) m final) w.table-is rest)),
        ap (λ (m : GPT). m.align) w.table-is ∙ c.loop-i.invariant.1,
      )
    ]
