use Rattle.std.proofs.Common.{◌∙◌, ap}
use Rattle.std.proofs.lemmas.Result.{IfOk-weaker}
use Rattle.clap.specs.Words.{App, Shape, shape_of, with_subcommand}
use Rattle.gptedit_words.specs.Named.{bare}
use Rattle.gptedit_words.proofs.Shapes.{third_not}
use Rattle.gptedit_words.proofs.definition.only.Goals as goal

pub returns : goal.returns
returns c =
    let shape = c.in_ok-subcommand.ensures.shape in
    let plain = third_not _ _ _ _ (ap (λ (s : Shape). s.is_plain) shape) in
    record {
      one = IfOk-weaker c.subcommand-2.result _ _
          (λ made adds. adds.shape plain ∙ ap (λ (a : App). with_subcommand a (shape_of c.in_ok-subcommand.field-0)) c.bare.ensures.bare ∙ ap (λ (s : Shape). with_subcommand bare s) shape)
          c.subcommand-2.ensures;
    }
