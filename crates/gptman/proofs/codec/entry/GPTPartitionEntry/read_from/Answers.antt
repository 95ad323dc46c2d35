use Rattle.std.proofs.Common.{◌≡◌, ◌≤◌, ◌+◌, ⊎_elim, inl, inr, length, arith}
use Rattle.std.proofs.lemmas.Result.{err_from_is_err_and}
use Rattle.gptman.specs.Copy.{entry_result}
use Rattle.gptman.proofs.Readers.{read_refused}
use Rattle.gptman.proofs.ReadEntry.{entry_short, entry_decoded}
use Rattle.gptman.proofs.codec.entry.GPTPartitionEntry.read_from.Goals as goal

pub returns-in_err-read_exact-clause-answer : goal.returns-in_err-read_exact-clause-answer
returns-in_err-read_exact-clause-answer g c = λ honest.
    let old = g.D.Disk.state c.args.disk.now in
    let p = err_from_is_err_and c.from_residual.result c.from_residual.ensures.1 in
    rw (p.1, p.2) (⊎_elim inl (λ is. inr (inr is))
    (read_refused (entry_result old.view old.position) old (g.D.Disk.state c.read_exact.new.self) 128 (g.met.D.Disk.sound c.args.disk.now honest).size
    (entry_short old.view old.position) c.in_err-read_exact.ensures.once))

pub returns-clause-answer : goal.returns-clause-answer
returns-clause-answer g c = λ honest.
    let old = g.D.Disk.state c.args.disk.now in
    let size : length old.view ≡ old.size = (g.met.D.Disk.sound c.args.disk.now honest).size in
    let inside : old.position + 128 ≤ length old.view = omega (arith, size, c.in_ok-read_exact.ensures.within) in
    inr (entry_decoded old.view old.position c.decode.result _ inside (c.in_ok-read_exact.ensures.value honest) c.decode.ensures.coding c.decode.ensures.name c.decode.ensures.refused)
