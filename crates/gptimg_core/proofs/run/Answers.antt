use Rattle.gptimg_core.proofs.Spelling.{only_reads}
use Rattle.gptimg_core.proofs.run.Goals as goal

pub returns-in_err-print_outcome-clause-reads : goal.returns-in_err-print_outcome-clause-reads
returns-in_err-print_outcome-clause-reads g c = λ honest never.
    c.perform-outcome.ensures.reads honest (only_reads c.args.words.now c.in-Some.command c.in-Some.ensures.spelled never)

pub returns-clause-reads : goal.returns-clause-reads
returns-clause-reads g c = λ honest never.
    c.perform-outcome.ensures.reads honest (only_reads c.args.words.now c.in-Some.command c.in-Some.ensures.spelled never)
