use Rattle.std.proofs.Common.{◌≡◌, drop, map}
use Rattle.clap.specs.Words.{app_of}
use Rattle.gptedit_words.specs.Definitions.{rule_for, with_rules}
use Rattle.gptedit_words.proofs.definition.with_arguments.Given as goal

abbrev pub invariant-loop-argument : goal.invariant-loop-argument
invariant-loop-argument l =
    with_rules (app_of l.command) (map rule_for (drop l.argument-index l.arguments)) ≡ with_rules (app_of l.fn.command) (map rule_for l.arguments)
