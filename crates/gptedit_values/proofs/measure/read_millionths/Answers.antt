use Rattle.gptedit_values.proofs.Measures.{fits_64}
use Rattle.gptedit_values.proofs.measure.read_millionths.Goals as goal

pub returns-in-Err-clause-value : goal.returns-in-Err-clause-value
returns-in-Err-clause-value c = λ short. c.in-Err.ensures (c.requires, fits_64 c.args.tail.now c.requires short)
