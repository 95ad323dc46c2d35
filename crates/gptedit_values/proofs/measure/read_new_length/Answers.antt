use Rattle.std.proofs.Common.{sym, ◌∙◌}
use Rattle.gptedit_values.proofs.Tables.{other_name}
use Rattle.gptedit_values.proofs.Measures.{no_longer}
use Rattle.gptedit_values.proofs.measure.read_new_length.Goals as goal

pub returns-in-Err-clause-refused : goal.returns-in-Err-clause-refused
returns-in-Err-clause-refused c =
    no_longer c.args.text.now c.in-Some.rest.now c.in-Err.wrong (other_name c.args.text.now _ (sym c.if-eq.false ∙ c.eq.ensures)) c.in-Some.ensures c.in-Err.ensures.read
