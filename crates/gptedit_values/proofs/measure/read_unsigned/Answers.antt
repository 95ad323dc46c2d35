use Rattle.gptedit_values.proofs.Measures.{no_shorter}
use Rattle.gptedit_values.proofs.measure.read_unsigned.Goals as goal

pub returns-in-Err-clause-refused : goal.returns-in-Err-clause-refused
returns-in-Err-clause-refused c = no_shorter c.args.text.now c.in-Some.rest.now c.in-Err.wrong c.requires.max c.in-Some.ensures c.in-Err.ensures.read
