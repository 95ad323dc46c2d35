use Rattle.std.proofs.Common.{◌≡◌, ℕ, length, arith, ap, ◌∙◌}
use Rattle.std.specs.Prelude.{nat_eq}
use Rattle.gptman.proofs.Numbers.{little_number_is, zero_bytes}
use Rattle.gptman.proofs.codec.entry.GPTPartitionEntry.is_unused.Goals as goal

pub returns : goal.returns
returns c =
    let long : length c.args.self.now.partition_type_guid ≡ 16 = omega arith in
    ap (λ (n : ℕ). nat_eq n 0) (c.read_u128.ensures ∙ little_number_is 16 c.args.self.now.partition_type_guid long)
    ∙ zero_bytes c.args.self.now.partition_type_guid
