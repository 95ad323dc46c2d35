use Rattle.std.proofs.Common.{rules, ◌≡◌, ◌∙◌, length, take, get_or, ap}
use Rattle.gptedit_look.proofs.Clears.{zeros, zeros_are}
use Rattle.gptedit_look.proofs.guard.are_zeros.Goals as goal

pub returns-in-Some : goal.returns-in-Some
returns-in-Some c = λ same i lt.
    let is : c.args.bytes.now ≡ c.in-Some.zeros.now = search rules in
    let part : c.in-Some.zeros.now ≡ take (length c.args.bytes.now) (zeros 512) = search rules in
    ap (λ b. get_or b i 0) (is ∙ part) ∙ zeros_are (length c.args.bytes.now) 512 i
