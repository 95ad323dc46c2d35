use Rattle.std.proofs.Common.{subst, sym}
use Rattle.gptedit_values.proofs.Measures.{Reads}
use Rattle.gptedit_values.proofs.measure.read_measure.Goals as goal

pub returns-in-Some : goal.returns-in-Some
returns-in-Some c =
    let reads = subst (λ t. Reads t c.read_fraction.result) (sym c.in-Some.ensures.1) (c.read_fraction.ensures.said, c.read_fraction.ensures.read) in
    record { said = reads.0; read = reads.1 }
