use Rattle.std.proofs.Common.{◌∙◌, ap, rules}
use Rattle.uuid.specs.Parts.{swap_fields}
use Rattle.gptguid_core.proofs.Orders.{swapped}
use Rattle.gptguid_core.proofs.forms.from_random.Goals as goal

pub returns-clause-value : goal.returns-clause-value
returns-clause-value c =
    c.to_bytes_le.ensures ∙ ap swap_fields (c.into_uuid.ensures ∙ c.from_random_bytes.ensures.value) ∙ swapped _ (search rules)
