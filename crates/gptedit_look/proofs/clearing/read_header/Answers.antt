use Rattle.std.proofs.Common.{◌≡◌, length, sym, ◌∙◌, arith}
use Rattle.gptedit_look.proofs.Headers.{in_short}
use Rattle.gptedit_look.proofs.clearing.read_header.Goals as goal

pub returns-then-size-at-lt-HEADER_SIZE-clause-found : goal.returns-then-size-at-lt-HEADER_SIZE-clause-found
returns-then-size-at-lt-HEADER_SIZE-clause-found g c = λ honest.
    let old = g.D.Disk.state c.args.disk.now in
    let size : c.in_ok-size.size ≡ old.size = c.in_ok-size.ensures.answer.0 in
    let long : length old.view ≡ c.in_ok-size.size = (g.met.D.Disk.sound c.args.disk.now honest).size ∙ sym size in
    in_short c.args.place c.args.sector_size c.in_ok-size.size c.in-Some.at old.view long c.in-Some.ensures.0 c.in-Some.ensures.1
    (omega (arith, c.if-size-at-lt-HEADER_SIZE.true))
