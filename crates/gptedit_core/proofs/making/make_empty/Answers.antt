use Rattle.std.proofs.Common.{ℕ, subst, rules}
use Rattle.gptman.proofs.Readers.{both_read}
use Rattle.gptedit_core.specs.Making.{IsFitted}
use Rattle.gptedit_core.proofs.Anew.{is_empty}
use Rattle.gptedit_core.proofs.making.make_empty.Goals as goal

pub returns-in_err-table-clause-reads : goal.returns-in_err-table-clause-reads
returns-in_err-table-clause-reads g c = both_read c.seek_end.ensures.reads c.fit_new.ensures.reads

pub returns-clause-reads : goal.returns-clause-reads
returns-clause-reads g c = both_read c.seek_end.ensures.reads c.fit_new.ensures.reads

pub returns-clause-value : goal.returns-clause-value
returns-clause-value g c =
    is_empty c.args.entries c.args.guid c.args.sector_size c.in_ok-size.size c.in_ok-table.table c.keep_laid_out.result
    (subst (λ (n : ℕ). IsFitted c.args.entries c.args.guid c.args.sector_size n c.in_ok-table.table) (search rules) c.in_ok-table.ensures.value) c.keep_laid_out.ensures
