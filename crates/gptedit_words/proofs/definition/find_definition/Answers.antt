use Rattle.std.proofs.Common.{◌≡◌, ◌∙◌, map, ap, refl, sym, Bool, List}
use Rattle.std.specs.Prelude.{Option, Some, None, find, option_map}
use Rattle.std.specs.Option.{option_or}
use Rattle.std.specs.Borrow.{Bor}
use Rattle.std.proofs.lemmas.List.Folds.{find-append}
use Rattle.clap.specs.Simple.{label_of}
use Rattle.clap.specs.Walk.{answers_to}
use Rattle.clap.specs.Words.{Shape}
use Rattle.gptedit_words.specs.Definitions.{shape_for}
use Rattle.gptedit_words.specs.Line.{changes, looks}
use Rattle.gptedit_words.specs.Named.{command_named}
use Rattle.gptedit_words.specs.declared.definition.Definition.{Definition}
use Rattle.gptedit_words.proofs.definition.find_definition.Goals as goal

either : {A B : Type 0} (f : A → B) (a b : Option A) → option_map f (option_or a b) ≡ option_or (option_map f a) (option_map f b)
either f None b = refl
either f (Some x) b = refl

pub returns : goal.returns
unfolding command_named
returns c =
    let name = c.args.name.now in
    let test : Shape → Bool = λ s. answers_to name (label_of s) in
    let shape : Bor Definition → Shape = λ d. shape_for d.now in
    let looks_are : option_map shape c.find_among.result ≡ find test looks =
    c.find_among.ensures.named ∙ ap (λ (ds : List Definition). find test (map shape_for ds)) c.as_slice.ensures in
    let changes_are : option_map shape c.find_among-2.result ≡ find test changes =
    c.find_among-2.ensures.named ∙ ap (λ (ds : List Definition). find test (map shape_for ds)) c.as_slice-2.ensures in
    record {
      named = ap (option_map shape) c.or.ensures ∙ either shape c.find_among.result c.find_among-2.result
          ∙ (λ i. option_or (looks_are i) (changes_are i)) ∙ sym (find-append test looks changes);
    }
