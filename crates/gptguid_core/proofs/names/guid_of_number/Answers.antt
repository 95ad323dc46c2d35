use Rattle.std.proofs.Common.{◌∙◌, ap, refl}
use Rattle.std.specs.Int.{to_be_bytes, w128}
use Rattle.uuid.specs.Parts.{swap_fields}
use Rattle.gptguid_core.proofs.Orders.{swapped}
use Rattle.gptguid_core.proofs.names.guid_of_number.Goals as goal

pub returns : goal.returns
returns c = c.to_bytes_le.ensures ∙ ap swap_fields c.from_u128.ensures ∙ swapped (to_be_bytes w128 c.args.number) refl
