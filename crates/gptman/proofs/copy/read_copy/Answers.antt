use Rattle.std.proofs.Common.{◌≡◌, ⊎_elim, ℕ, List, Ok, inl, inr, sym, ap, ◌∙◌}
use Rattle.std.proofs.lemmas.Result.{err_from_is_err_and}
use Rattle.gptman.specs.Copy.{header_result, array_result}
use Rattle.gptman.specs.declared.codec.entry.GPTPartitionEntry.{GPTPartitionEntry}
use Rattle.gptman.proofs.Runs.{rose_since}
use Rattle.gptman.proofs.CopyParts.{header_refused, array_refused, both_pass}
use Rattle.gptman.proofs.copy.read_copy.Goals as goal

pub returns-in_err-header-clause-answer : goal.returns-in_err-header-clause-answer
returns-in_err-header-clause-answer g c = λ honest.
    let old = g.D.Disk.state c.args.disk.now in
    let p = err_from_is_err_and c.from_residual.result c.from_residual.ensures.1 in
    rw (p.1, p.2) (⊎_elim
    (λ fails. inl fails)
    (λ is. inr (inr (sym (header_refused old.view old.position c.args.sector_size _ (sym is)))))
    (c.in_err-header.ensures.answer honest))

pub returns-in_err-entries-clause-answer : goal.returns-in_err-entries-clause-answer
returns-in_err-entries-clause-answer g c = λ honest.
    let ss = c.args.sector_size in
    let old = g.D.Disk.state c.args.disk.now in
    let mid = g.D.Disk.state c.read_from.new.disk in
    let new = g.D.Disk.state c.read_partitions.new.disk in
    let h = c.in_ok-header.header in
    let reads = c.read_from.ensures.reads.only honest in
    let p = err_from_is_err_and c.from_residual-in_err-entries.result c.from_residual-in_err-entries.ensures.1 in
    let here : array_result mid.view ss h ≡ array_result old.view ss h = ap (λ (b : List ℕ). array_result b ss h) reads.view in
    let good : header_result old.view old.position ≡ Ok h = ⊎_elim (λ fails. absurd fails.0) (λ is. sym is) (c.in_ok-header.ensures.answer honest) in
    rw (p.1, p.2) (⊎_elim
    (λ fails. inl (fails.0, rose_since old mid new c.read_from.ensures.reads.keeps fails.1))
    (λ rest. inr (⊎_elim (λ memory. inl memory) (λ is. inr (sym (array_refused old.view old.position ss h _ good (sym (is ∙ here))))) rest))
    (c.in_err-entries.ensures.answer reads.wrote.honest))

pub returns-clause-answer : goal.returns-clause-answer
returns-clause-answer g c = λ honest.
    let ss = c.args.sector_size in
    let old = g.D.Disk.state c.args.disk.now in
    let mid = g.D.Disk.state c.read_from.new.disk in
    let h = c.in_ok-header.header in
    let reads = c.read_from.ensures.reads.only honest in
    let here : array_result mid.view ss h ≡ array_result old.view ss h = ap (λ (b : List ℕ). array_result b ss h) reads.view in
    let good : header_result old.view old.position ≡ Ok h = ⊎_elim (λ fails. absurd fails.0) (λ is. sym is) (c.in_ok-header.ensures.answer honest) in
    let entries : Ok c.in_ok-entries.entries.items ≡ array_result old.view ss h =
    ⊎_elim (λ fails. absurd fails.0) (λ rest. ⊎_elim (λ memory. absurd memory) (λ is. is ∙ here) rest) (c.in_ok-entries.ensures.answer reads.wrote.honest) in
    inr (inr (ap (λ (es : List GPTPartitionEntry). Ok (record { header = h; entries = es })) (λ i. c.in_ok-entries.entries.items)
    ∙ sym (both_pass old.view old.position ss h c.in_ok-entries.entries.items good (sym entries))))
