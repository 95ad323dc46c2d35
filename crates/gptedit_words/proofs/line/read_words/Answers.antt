use Rattle.std.proofs.Common.{◌∙◌, inl, subst, sym}
use Rattle.std.proofs.lemmas.Result.{IfOk-weaker}
use Rattle.clap.specs.Words.{fault_of, found_of, subcommand_rows_of, HasKind, Kinds}
use Rattle.gptedit_words.specs.Line.{line}
use Rattle.gptedit_words.specs.Spelled.{texts_of, IsOfUsage, Names}
use Rattle.gptedit_words.proofs.Named.{reads_simply}
use Rattle.gptedit_words.proofs.Spelled.{if_err_and, met, not_met, usage_is, wrong_is}
use Rattle.gptedit_words.proofs.line.read_words.Goals as goal

pub returns-in_err-matches-clause-refused : goal.returns-in_err-matches-clause-refused
returns-in_err-matches-clause-refused c =
    let words = texts_of c.args.words.now in
    let reads = c.in_ok-command_for.ensures.reads in
    let e = c.in_err-matches.field-0.0 in
    let kind : HasKind (fault_of line words) e = subst (λ (k : Kinds). HasKind k e) reads.faults (c.in_err-matches.ensures.kinds reads.free) in
    if_err_and c.from_residual-in_err-matches.result (IsOfUsage e) _ (λ error of. usage_is words e error kind of) c.from_residual-in_err-matches.ensures.1

pub returns-in_default-clause-refused : goal.returns-in_default-clause-refused
returns-in_default-clause-refused c =
    let reads = c.in_ok-command_for.ensures.reads in
    let found = (c.in_ok-matches.ensures.matches (reads_simply reads)).1 in
    inl (sym reads.command ∙ sym found ∙ not_met (subcommand_rows_of c.in_ok-matches.matches) c.in_default.ensures.rows)

-- the command that was found
named : (c : goal.Joined-matches-2) → Names (texts_of c.args.words.now) c.in-Some.name.now (found_of c.in-Some.words.now)
named c =
    let reads = c.in_ok-command_for.ensures.reads in
    let found = (c.in_ok-matches.ensures.matches (reads_simply reads)).1 in
    record {
      faultless = sym reads.faults ∙ c.in_ok-matches.ensures.kinds reads.free;
      command = sym reads.command ∙ sym found ∙ met _ _ _ _ _ c.in-Some.ensures.name c.in-Some.ensures.rows;
    }

pub returns-clause-said : goal.returns-clause-said
returns-clause-said c = IfOk-weaker c.read_request.result _ _
    (λ request asks. record { name = c.in-Some.name.now; found = found_of c.in-Some.words.now; named = named c; asks = asks }) c.read_request.ensures.said

pub returns-clause-refused : goal.returns-clause-refused
returns-clause-refused c =
    wrong_is (texts_of c.args.words.now) c.in-Some.name.now (found_of c.in-Some.words.now) c.read_request.result (named c) c.read_request.ensures.refused
