use Rattle.std.proofs.Common.{◌≡◌, drop, map}
use Rattle.std.specs.Prelude.{find}
use Rattle.clap.specs.Simple.{label_of}
use Rattle.clap.specs.Walk.{answers_to}
use Rattle.gptedit_words.specs.Definitions.{shape_for}
use Rattle.gptedit_words.proofs.definition.find_among.Given as goal

abbrev pub invariant-loop-definition : goal.invariant-loop-definition
invariant-loop-definition l =
    find (λ s. answers_to l.name (label_of s)) (map shape_for (drop l.definition-index l.definitions))
    ≡ find (λ s. answers_to l.name (label_of s)) (map shape_for l.definitions)
