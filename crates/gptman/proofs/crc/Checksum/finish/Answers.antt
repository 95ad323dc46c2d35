use Rattle.std.proofs.Common.{ℕ, sym, ap, ◌∙◌, ◌-◌, ◌^◌}
use Rattle.gptman.proofs.Division.{crc_of_register}
use Rattle.gptman.proofs.crc.Checksum.finish.Goals as goal

pub returns : goal.returns
returns c = λ m h. ap (λ (r : ℕ). 2 ^ 32 - 1 - r) h.register ∙ sym (crc_of_register m h.bytes)
