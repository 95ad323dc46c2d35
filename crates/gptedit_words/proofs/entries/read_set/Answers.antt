use Rattle.clap.specs.Words.{found_of}
use Rattle.gptedit_words.specs.Refusals.{CanSet}
use Rattle.gptedit_words.proofs.Given.{not_of_disk, refused_for}
use Rattle.gptedit_words.proofs.entries.read_set.Goals as goal

pub returns-in_err-refuse_both-2-clause-refused : goal.returns-in_err-refuse_both-2-clause-refused
returns-in_err-refuse_both-2-clause-refused c =
    refused_for (found_of c.args.words.now) (¬ (CanSet (found_of c.args.words.now))) c.from_residual-in_err-refuse_both-2.result
    (not_of_disk (found_of c.args.words.now) c.in_ok-guid.field-0 c.in-Some.guid c.in-Some.is
    c.in_ok-guid.ensures.said (c.gives_field.ensures.given c.in_err-refuse_both-2.ensures.both))
