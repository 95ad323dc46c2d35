use Rattle.std.proofs.Common.{◌∙◌, Some, length, sym, ap}
use Rattle.uuid.proofs.TextLemmas.{by_index_length}
use Rattle.gptguid_core.proofs.Spelled.{parsed_at_32}
use Rattle.gptguid_core.proofs.forms.digits_of.Goals as goal

pub returns-clause-back : goal.returns-clause-back
returns-clause-back c =
    let long = ap length c.encode_lower.ensures.text ∙ by_index_length 32 _ in
    sym (c.encode_lower.ensures.parsed ∙ parsed_at_32 c.encode_lower.result.now long) ∙ ap Some (c.simple.ensures ∙ c.from_bytes.ensures)
