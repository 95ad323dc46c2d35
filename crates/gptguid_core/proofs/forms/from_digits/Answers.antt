use Rattle.std.proofs.Common.{◌∙◌, sym, ap, rules}
use Rattle.gptguid_core.specs.Forms.{digits_form}
use Rattle.gptguid_core.proofs.Spelled.{digits_again, parsed_at_32, read_as}
use Rattle.gptguid_core.proofs.forms.from_digits.Goals as goal

pub returns-in_err-guid-clause-value : goal.returns-in_err-guid-clause-value
returns-in_err-guid-clause-value c =
    c.from_residual.ensures ∙ sym c.in_err-guid.was ∙ c.ok.ensures.value ∙ read_as c.parse_str.result _ c.parse_str.ensures.ok c.parse_str.ensures.bytes
    ∙ parsed_at_32 c.args.text.now (search rules)

pub returns-clause-back : goal.returns-clause-back
returns-clause-back c =
    let read = c.ok.ensures.value ∙ read_as c.parse_str.result _ c.parse_str.ensures.ok c.parse_str.ensures.bytes ∙ parsed_at_32 c.args.text.now (search rules) in
    ap digits_form c.into_bytes.ensures ∙ digits_again c.args.text.now c.in_ok-guid.guid (sym read ∙ c.in_ok-guid.was)
