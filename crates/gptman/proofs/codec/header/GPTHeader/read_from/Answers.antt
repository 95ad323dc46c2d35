use Rattle.std.proofs.Common.{◌≡◌, ◌≤◌, ◌+◌, inr, length, sym, ap, ◌∙◌, arith}
use Rattle.std.proofs.lemmas.Result.{err_from_is_err_and}
use Rattle.gptman.specs.Coding.{header_bytes, header_of}
use Rattle.gptman_disk.specs.Bytes.{part}
use Rattle.gptman.proofs.CopyTests.{header_short, header_inside}
use Rattle.gptman.specs.Copy.{header_result}
use Rattle.gptman.proofs.HeaderBytes.{header_is}
use Rattle.gptman.proofs.Readers.{read_refused}
use Rattle.gptman.proofs.codec.header.GPTHeader.read_from.Goals as goal

pub returns-in_err-read_exact-clause-answer : goal.returns-in_err-read_exact-clause-answer
returns-in_err-read_exact-clause-answer g c = λ honest.
    let old = g.D.Disk.state c.args.disk.now in
    let p = err_from_is_err_and c.from_residual.result c.from_residual.ensures.1 in
    rw (p.1, p.2) (read_refused (header_result old.view old.position) old (g.D.Disk.state c.read_exact.new.self) 92 (g.met.D.Disk.sound c.args.disk.now honest).size
    (header_short old.view old.position) c.in_err-read_exact.ensures.once)

pub returns-clause-answer : goal.returns-clause-answer
returns-clause-answer g c = λ honest.
    let old = g.D.Disk.state c.args.disk.now in
    let size : length old.view ≡ old.size = (g.met.D.Disk.sound c.args.disk.now honest).size in
    let inside : old.position + 92 ≤ length old.view = omega (arith, size, c.in_ok-read_exact.ensures.within) in
    let bytes : header_bytes c.decode.result ≡ part old.view old.position 92 = sym c.decode.ensures.spelled ∙ c.in_ok-read_exact.ensures.value honest in
    inr (c.test.ensures.answer
    ∙ sym (header_inside old.view old.position c.decode.result (header_bytes c.decode.result) inside bytes (header_is c.decode.result _ c.decode.ensures.coding ∙ ap header_of c.decode.ensures.spelled)))
