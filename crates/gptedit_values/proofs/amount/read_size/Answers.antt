use Rattle.std.proofs.Common.{rules}
use Rattle.gptedit_values.proofs.Amounts.{reads_rest}
use Rattle.gptedit_values.proofs.amount.read_size.Goals as goal

pub returns-then-eq-clause-read : goal.returns-then-eq-clause-read
returns-then-eq-clause-read c = reads_rest c.args.text.now (search rules)
