use Rattle.std.proofs.Common.{drop, map}
use Rattle.gptedit_words.specs.Refusals.{AllTargets}
use Rattle.gptedit_words.proofs.Targets.{Collects}
use Rattle.gptedit_words.proofs.values.targets.Given as goal

abbrev pub invariant-loop-text : goal.invariant-loop-text
invariant-loop-text l = Collects (map (λ s. s.now) (drop l.text-index l.texts)) l.targets.items (map (λ s. s.now) l.texts)
    × (AllTargets (map (λ s. s.now) l.texts) → AllTargets (map (λ s. s.now) (drop l.text-index l.texts)))
