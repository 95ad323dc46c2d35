use Rattle.std.proofs.Common.{◌≡◌, ◌∙◌, ap, refl, subst, sym}
use Rattle.std.specs.Prelude.{slice_get, string_bytes, Some}
use Rattle.std.proofs.lemmas.Option.{slice_get_read}
use Rattle.std.proofs.lemmas.Result.{IfOk-weaker}
use Rattle.clap.specs.Words.{App}
use Rattle.gptedit_words.specs.Definitions.{shape_for}
use Rattle.gptedit_words.specs.Named.{command_named, ReadsAs}
use Rattle.gptedit_words.specs.Spelled.{texts_of}
use Rattle.gptedit_words.proofs.Named.{only_reads, whole_reads}
use Rattle.gptedit_words.proofs.definition.command_for.Goals as goal

pub returns-in_default : goal.returns-in_default
returns-in_default c =
    let words = texts_of c.args.words.now in
    record {
      reads = IfOk-weaker c.command.result _ _ (λ made is. subst (λ (a : App). ReadsAs words a) (sym is) (whole_reads words)) c.command.ensures.line;
    }

pub returns-in-None : goal.returns-in-None
returns-in-None c =
    let words = texts_of c.args.words.now in
    record {
      reads = IfOk-weaker c.command-in-None.result _ _ (λ made is. subst (λ (a : App). ReadsAs words a) (sym is) (whole_reads words)) c.command-in-None.ensures.line;
    }

pub returns-in-Some-find_definition : goal.returns-in-Some-find_definition
returns-in-Some-find_definition c =
    let words = c.args.words.now in
    let name = c.in-Some.name.now in
    let second : slice_get words 1 ≡ Some name = slice_get_read words _ 1 name refl c.in-Some.ensures.lookup.3.0 c.in-Some.ensures.lookup.1 in
    let shape = shape_for c.in-Some-find_definition.definition.now in
    let found : command_named (string_bytes name) ≡ Some shape = ap command_named (sym c.deref.ensures) ∙ sym c.in-Some-find_definition.ensures.named in
    record {
      reads = IfOk-weaker c.only.result _ _
          (λ made is. subst (λ (a : App). ReadsAs (texts_of words) a) (sym is) (only_reads words name shape second refl found)) c.only.ensures.one;
    }
