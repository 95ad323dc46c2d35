use Rattle.std.proofs.Common.{◌∙◌, ◌+◌, drop, map, ap, sym, List}
use Rattle.std.proofs.lemmas.List.{drop_more}
use Rattle.clap.specs.Words.{App, Shape, app_of, with_subcommand}
use Rattle.gptedit_words.specs.Definitions.{shape_for, with_commands}
use Rattle.gptedit_words.specs.declared.definition.Definition.{Definition}
use Rattle.gptedit_words.proofs.Shapes.{third_not}
use Rattle.gptedit_words.proofs.definition.with_commands.Goals as goal

pub loop-definition-preserved : goal.loop-definition-preserved
loop-definition-preserved c =
    let all = c.args.definitions.now in
    let i = c.loop-definition.definition-index in
    let rest = map shape_for (drop (i + 1) all) in
    let old = app_of c.loop-definition.command in
    let shape = c.in_ok-subcommand.ensures.shape in
    let added = c.in_ok-command.ensures.shape (third_not _ _ _ _ (ap (λ (s : Shape). s.is_plain) shape)) in
    ap (λ (a : App). with_commands a rest) (added ∙ ap (λ (s : Shape). with_subcommand old s) shape)
    ∙ ap (λ (left : List Definition). with_commands old (map shape_for left)) (sym (drop_more all i _ c.loop-definition-test.true))
    ∙ c.loop-definition.invariant
