use Rattle.std.proofs.Common.{◌≡◌}
use Rattle.std.specs.Str.Iter.{split_steps}
use Rattle.std.specs.Str.Pattern.{FindsChar}
use Rattle.gptedit_values.specs.Words.{words_of}
use Rattle.gptedit_values.proofs.Steps.{Follows}
use Rattle.gptedit_values.proofs.attribute_change.read_steps.Given as goal

abbrev pub invariant-loop-word : goal.invariant-loop-word
invariant-loop-word l =
    (goal.iterator-loop-word).can_next l.word-iterator
    × (goal.iterator-loop-word).is_finite l.word-iterator
    × Follows (split_steps FindsChar (λ a b. b ≡ a)) (λ x. x.now) (words_of l.text) l.word-iterator l.change
