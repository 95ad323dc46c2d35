use Rattle.std.proofs.Common.{◌≡◌, ◌∙◌, map, ap, refl, List}
use Rattle.std.proofs.lemmas.Result.{IfOk-weaker}
use Rattle.clap.specs.Words.{App, Shape, app_of}
use Rattle.gptedit_words.specs.Definitions.{shape_for, with_commands}
use Rattle.gptedit_words.specs.Line.{changes, line, looks}
use Rattle.gptedit_words.specs.Named.{bare}
use Rattle.gptedit_words.proofs.definition.command.Goals as goal

whole : with_commands (with_commands bare looks) changes ≡ line
unfolding line
whole = refl

pub returns : goal.returns
returns c =
    let looks_are : map shape_for c.as_slice.result.now ≡ looks = ap (map shape_for) c.as_slice.ensures in
    let changes_are : map shape_for c.as_slice-2.result.now ≡ changes = ap (map shape_for) c.as_slice-2.ensures in
    let first : app_of c.in_ok-command.command ≡ with_commands bare looks = c.in_ok-command.ensures.commands
    ∙ ap (λ (a : App). with_commands a (map shape_for c.as_slice.result.now)) c.bare.ensures.bare ∙ ap (λ (s : List Shape). with_commands bare s) looks_are in
    record {
      line = IfOk-weaker c.with_commands-2.result _ _
          (λ made is. is ∙ ap (λ (a : App). with_commands a (map shape_for c.as_slice-2.result.now)) first
          ∙ ap (λ (s : List Shape). with_commands (with_commands bare looks) s) changes_are ∙ whole)
          c.with_commands-2.ensures.commands;
    }
