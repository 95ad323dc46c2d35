-- The `clap` rules for the commands as the code defines them.
use Rattle.std.specs.Prelude.{List, [], ◌∷◌, ◌++◌, map}
use Rattle.clap.specs.Words.{App, Rule, Shape, with_rule, with_subcommand}
use Rattle.gptedit_words.specs.Line.{flag, lettered, number, place, text_place, text_places, value, with_words}
use Rattle.gptedit_words.specs.declared.definition.Argument.{Argument}
use Rattle.gptedit_words.specs.declared.definition.Argument.TheVariants.{Flag, Lettered, Value, Number, Place, Places, MayPlace}
use Rattle.gptedit_words.specs.declared.definition.Definition.{Definition}

abbrev pub rule_for : Argument → Rule
rule_for (Flag word help) = flag word.now
rule_for (Lettered letter word help) = lettered letter word.now
rule_for (Value word name help) = value word.now
rule_for (Number word most help) = number word.now most
rule_for (Place name help) = text_place name.now
rule_for (Places name help) = text_places name.now
rule_for (MayPlace name help) = place name.now

abbrev pub shape_for : Definition → Shape
shape_for d = with_words d.name.now (map rule_for d.arguments.now ++ map rule_for d.options.now)

-- The command with these arguments added.
abbrev pub with_rules : App → List Rule → App
with_rules app [] = app
with_rules app (rule ∷ rules) = with_rules (with_rule app rule) rules

-- The command with these commands added.
abbrev pub with_commands : App → List Shape → App
with_commands app [] = app
with_commands app (shape ∷ shapes) = with_commands (with_subcommand app shape) shapes
