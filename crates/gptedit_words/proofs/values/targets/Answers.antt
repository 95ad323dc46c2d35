use Rattle.std.proofs.Common.{rules, ◌≡◌, [], drop, map, subst, List}
use Rattle.std.specs.Prelude.{Some}
use Rattle.std.specs.Borrow.{Bor}
use Rattle.std.proofs.lemmas.List.{drop_all}
use Rattle.clap.specs.Words.{found_of, Text}
use Rattle.gptedit_words.specs.Asks.{texts_of_place}
use Rattle.gptedit_words.proofs.Targets.{collect_last, Collects}
use Rattle.gptedit_words.proofs.values.targets.Goals as goal

pub returns-clause-said : goal.returns-clause-said
returns-clause-said c =
    let texts = map (λ (s : Bor Text). s.now) c.in-Some.texts.now in
    let done = c.loop-text.targets.items in
    let there : texts_of_place (found_of c.args.words.now) c.args.word.now ≡ Some texts = search rules in
    let none : drop c.loop-text.text-index c.in-Some.texts.now ≡ [] = drop_all c.loop-text.text-index c.in-Some.texts.now c.loop-text-test.false in
    rw (there) (collect_last texts done (subst (λ (left : List (Bor Text)). Collects (map (λ s. s.now) left) done texts) none c.loop-text.invariant.0))
