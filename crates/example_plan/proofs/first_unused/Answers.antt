use Rattle.std.proofs.Common.{rules, IsTrue}
use Rattle.std.proofs.lemmas.Iterator.{first_from_find}
use Rattle.std.proofs.lemmas.Iterator.Consumers.{YieldsList-from_first}
use Rattle.std.proofs.lemmas.Option.{MatchOption-at_none, MatchOption-at_some}
use Rattle.gptman.specs.Entry.{is_unused, is_used}
use Rattle.example_plan.proofs.Unused.{all_numbered, first_numbered, if_none_of}
use Rattle.example_plan.proofs.first_unused.Goals as goal
use borrow.Author.Tests.{tests}

pub returns-clause-found : goal.returns-clause-found
returns-clause-found c =
    let found = first_from_find _ _ c.find.result (λ p. IsTrue (is_unused p.1)) (λ p. IsTrue (is_used p.1)) c.find.ensures.ran
    (YieldsList-from_first (λ p. (p.0, p.1.now)) (λ s. s) _ c.iter.ensures.items) (λ x q k. search (rules, tests)) (λ x q k. search (rules, tests)) in
    let first = MatchOption-at_some _ _ _ c.in_ok-number.was found in
    first_numbered c.args.table.now (c.in_ok-number.number, c.in_ok-number.field-0-1.now) first.1 first.0 first.2 first.3 first.4

pub returns-in_err-number-clause-none : goal.returns-in_err-number-clause-none
returns-in_err-number-clause-none c =
    let found = first_from_find _ _ c.find.result (λ p. IsTrue (is_unused p.1)) (λ p. IsTrue (is_used p.1)) c.find.ensures.ran
    (YieldsList-from_first (λ p. (p.0, p.1.now)) (λ s. s) _ c.iter.ensures.items) (λ x q k. search (rules, tests)) (λ x q k. search (rules, tests)) in
    if_none_of _ (all_numbered c.args.table.now (MatchOption-at_none _ _ c.in_err-number.was found))
