use Rattle.std.proofs.Common.{◌≡◌, ◌∙◌, ap, refl, rules, subst, sym, List, [], drop, Ok}
use Rattle.std.proofs.lemmas.List.{append-nil, drop_all}
use Rattle.gptedit_core.specs.Resolving.{resolved_all}
use Rattle.gptedit_core.specs.declared.asked.Asked.{Asked}
use Rattle.gptedit_core.proofs.applying.resolve_all.Goals as goal

pub returns-clause-ok : goal.returns-clause-ok
returns-clause-ok c =
    let i = c.loop-i.i in
    let none : drop i c.args.asked.now ≡ [] = drop_all i c.args.asked.now (search rules) in
    let rest = subst (λ (asked : List Asked). resolved_all c.args.table.now c.args.mode asked (drop i c.args.random.now) ≡ Ok []) (sym none) refl in
    c.loop-i.invariant.0 [] rest ∙ ap (λ ps. Ok ps) (append-nil c.loop-i.partitions.items)
