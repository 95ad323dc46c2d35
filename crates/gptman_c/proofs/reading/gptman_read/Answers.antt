use Rattle.std.proofs.Common.{◌≡◌, ⊎_elim, inl, inr, ap, ◌∙◌}
use Rattle.gptman.specs.Fault.{fault_number, fault_of}
use Rattle.gptman_plan.proofs.KnownCopies.{fault_known}
use Rattle.gptman_c.proofs.reading.gptman_read.Goals as goal

pub returns-in-Fault-clause-faults : goal.returns-in-Fault-clause-faults
returns-in-Fault-clause-faults c = λ above below.
    let e = c.in-Some.ends in
    let number : c.number.result ≡ fault_number (fault_of c.in-Fault.fault) = c.number.ensures.number in
    ⊎_elim
    (λ none. inr (inr (number ∙ ap fault_number none)))
    (λ told. ⊎_elim (λ two. inl (number ∙ two)) (λ seven. inr (inl (number ∙ seven)))
    (fault_known e c.args.sector_size (fault_of c.in-Fault.fault) told))
    c.in-Fault.ensures.reading
