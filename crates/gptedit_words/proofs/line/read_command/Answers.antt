use Rattle.std.proofs.Common.{rules, ◌≡◌, codes, subst, sym, ⊎_elim}
use Rattle.std.specs.Prelude.{Result, Err}
use Rattle.clap.specs.Words.{first_value, found_of}
use Rattle.gptedit_words.specs.Asks.{IsWrong, SaysNoLock}
use Rattle.gptedit_words.specs.Refusals.{CanRun, IsOfLook, RefusedOnlyFor}
use Rattle.gptedit_words.specs.declared.error.WordsError.{WordsError}
use Rattle.gptedit_words.specs.declared.request.Command.{Command}
use Rattle.gptedit_words.specs.declared.request.Options.{Options}
use Rattle.gptedit_words.proofs.Given.{lock_refused, refused_more}
use Rattle.gptedit_words.proofs.line.read_command.Goals as goal

pub returns-in_err-read_options-in_default-clause-refused : goal.returns-in_err-read_options-in_default-clause-refused
returns-in_err-read_options-in_default-clause-refused c =
    let found = found_of c.args.words.now in
    let name = c.args.name.now in
    let error = c.in_err-read_options-in_default.field-0.0 in
    let wrong = IsWrong SaysNoLock (first_value found (codes "--lock")) in
    let same : c.from_residual-in_err-read_options-in_default.result ≡ Err error = search rules in
    let changes : ¬ (IsOfLook name) = ⊎_elim c.in_default.not-show (⊎_elim c.in_default.not-check (⊎_elim c.in_default.not-free
    (⊎_elim c.in_default.not-dump c.in_default.not-salvage))) in
    subst (λ (r : Result Command WordsError). RefusedOnlyFor found (¬ (CanRun name found)) r) (sym same)
    (refused_more Options Command found wrong (¬ (CanRun name found)) error (lock_refused name found changes) c.in_err-read_options-in_default.ensures.refused)
