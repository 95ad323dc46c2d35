use Rattle.std.proofs.Common.{◌≡◌, ◌∙◌, ap, List, [], drop}
use Rattle.std.specs.Prelude.{Ok}
use Rattle.std.proofs.lemmas.List.{append-nil, drop_all}
use Rattle.gptedit_core.specs.Matching.{all_found}
use Rattle.gptedit_core.specs.declared.matching.EntryMatch.{EntryMatch}
use Rattle.gptedit_core.proofs.matching.all_found.Goals as goal

pub returns-clause-matches : goal.returns-clause-matches
returns-clause-matches c =
    let all = c.args.found.now in
    let i = c.loop-one.one-index in
    let none : drop i all ≡ [] = drop_all i all c.loop-one-test.false in
    c.loop-one.invariant.0 [] (ap all_found none) ∙ ap (λ (ms : List EntryMatch). Ok ms) (append-nil c.loop-one.matches.items)
