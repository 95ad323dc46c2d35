use Rattle.std.proofs.Common.{◌∙◌, Some, sym, ap, rules}
use Rattle.std.specs.Option.{option_map}
use Rattle.uuid.specs.Text.{hyphenated_text, upper}
use Rattle.gptguid_core.specs.Forms.{disk_order, text_form}
use Rattle.gptguid_core.proofs.Orders.{ordered_twice, swapped}
use Rattle.gptguid_core.proofs.Spelled.{parsed_at_36, read_as, text_again, text_read_long}
use Rattle.gptguid_core.proofs.forms.from_text.Goals as goal

pub returns-in_err-guid-clause-value : goal.returns-in_err-guid-clause-value
returns-in_err-guid-clause-value c =
    let read = c.ok.ensures.value ∙ read_as c.parse_str.result _ c.parse_str.ensures.ok c.parse_str.ensures.bytes ∙ parsed_at_36 c.args.text.now (search rules) in
    c.from_residual.ensures ∙ ap (option_map disk_order) (sym c.in_err-guid.was ∙ read)

pub returns-clause-value : goal.returns-clause-value
returns-clause-value c =
    let read = c.ok.ensures.value ∙ read_as c.parse_str.result _ c.parse_str.ensures.ok c.parse_str.ensures.bytes ∙ parsed_at_36 c.args.text.now (search rules) in
    let long = text_read_long c.args.text.now c.in_ok-guid.guid (sym read ∙ c.in_ok-guid.was) in
    ap Some (c.to_bytes_le.ensures ∙ swapped c.in_ok-guid.guid long) ∙ ap (option_map disk_order) (sym c.in_ok-guid.was ∙ read)

pub returns-clause-back : goal.returns-clause-back
returns-clause-back c =
    let read = c.ok.ensures.value ∙ read_as c.parse_str.result _ c.parse_str.ensures.ok c.parse_str.ensures.bytes ∙ parsed_at_36 c.args.text.now (search rules) in
    let long = text_read_long c.args.text.now c.in_ok-guid.guid (sym read ∙ c.in_ok-guid.was) in
    ap text_form (c.to_bytes_le.ensures ∙ swapped c.in_ok-guid.guid long)
    ∙ ap (hyphenated_text upper) (ordered_twice c.in_ok-guid.guid long)
    ∙ text_again c.args.text.now c.in_ok-guid.guid (sym read ∙ c.in_ok-guid.was)
