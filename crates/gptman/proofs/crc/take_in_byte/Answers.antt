use Rattle.std.proofs.Common.{ℕ, ◌/◌, ◌%◌, bit_xor, ap, ◌∙◌, arith}
use Rattle.std.proofs.lemmas.Nat.{and_mask}
use Rattle.gptman.specs.Register.{steps}
use Rattle.gptman.proofs.ByTable.{with_byte_by_table}
use Rattle.gptman.proofs.crc.take_in_byte.Goals as goal

pub returns : goal.returns
returns c =
    let low = and_mask (bit_xor c.args.register c.from.result) 8 ∙ ap (λ (b : ℕ). bit_xor c.args.register b % 256) c.from.ensures in
    ap (λ (w : ℕ). bit_xor w (c.args.register / 256)) (c.word.ensures ∙ ap (steps 8) low)
    ∙ with_byte_by_table c.args.register c.args.byte (omega arith)
