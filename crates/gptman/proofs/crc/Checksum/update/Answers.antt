use Rattle.std.proofs.Common.{ℕ, arith, sym, ap, ◌∙◌, ◌-◌, ◌^◌}
use Rattle.std.proofs.lemmas.List.Sums.{fold-append}
use Rattle.gptman.specs.Register.{with_byte, with_message}
use Rattle.gptman.proofs.Division.{bytes_append}
use Rattle.gptman.proofs.crc.Checksum.update.Goals as goal

pub returns : goal.returns
returns c = λ m h. record {
  register = c.take_in_all-self.ensures ∙ ap (λ (r : ℕ). with_message r c.args.bytes.now) h.register ∙ sym (fold-append with_byte (2 ^ 32 - 1) m c.args.bytes.now);
  bytes = bytes_append m c.args.bytes.now h.bytes (λ i. omega (arith, c.type_inv.bytes i));
}
