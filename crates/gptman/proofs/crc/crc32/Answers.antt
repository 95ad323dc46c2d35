use Rattle.std.proofs.Common.{ℕ, ◌-◌, ◌^◌, arith, sym, ap, ◌∙◌}
use Rattle.gptman.proofs.Division.{crc_of_register}
use Rattle.gptman.proofs.crc.crc32.Goals as goal

pub returns : goal.returns
returns c =
    ap (λ (r : ℕ). 2 ^ 32 - 1 - r) c.take_in_all.ensures
    ∙ sym (crc_of_register c.args.bytes.now (λ i. omega (arith, c.type_inv.bytes i)))
