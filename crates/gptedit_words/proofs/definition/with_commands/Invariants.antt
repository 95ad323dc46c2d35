use Rattle.std.proofs.Common.{◌≡◌, drop, map}
use Rattle.clap.specs.Words.{app_of}
use Rattle.gptedit_words.specs.Definitions.{shape_for, with_commands}
use Rattle.gptedit_words.proofs.definition.with_commands.Given as goal

abbrev pub invariant-loop-definition : goal.invariant-loop-definition
invariant-loop-definition l =
    with_commands (app_of l.command) (map shape_for (drop l.definition-index l.definitions)) ≡ with_commands (app_of l.fn.command) (map shape_for l.definitions)
