use Rattle.std.proofs.Common.{rules, ◌≡◌, ◌∙◌, map, ap}
use Rattle.std.proofs.lemmas.Result.{IfOk-weaker}
use Rattle.clap.specs.Words.{App, app_of, new_app}
use Rattle.gptedit_words.specs.Definitions.{rule_for, with_rules}
use Rattle.gptedit_words.proofs.Shapes.{shape_made}
use Rattle.gptedit_words.proofs.definition.subcommand.Goals as goal

pub returns : goal.returns
returns c =
    let definition = c.args.definition.now in
    let own = map rule_for definition.arguments.now in
    let shared = map rule_for definition.options.now in
    let new_is : app_of c.after_help-command.result ≡ new_app definition.name.now = search rules in
    record {
      shape = IfOk-weaker c.with_arguments-2.result _ _
          (λ made is. ap (λ (a : App). a.top) (is ∙ ap (λ (a : App). with_rules a shared) (c.in_ok-command.ensures.rules ∙ ap (λ (a : App). with_rules a own) new_is))
          ∙ shape_made definition.name.now own shared)
          c.with_arguments-2.ensures.rules;
    }
