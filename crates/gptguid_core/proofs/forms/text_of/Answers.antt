use Rattle.std.proofs.Common.{◌≡◌, ◌∙◌, Some, length, sym, ap, rules}
use Rattle.std.specs.Option.{option_map}
use Rattle.uuid.specs.Text.{hyphenated_text, upper}
use Rattle.uuid.proofs.TextLemmas.{by_index_length}
use Rattle.gptguid_core.specs.Forms.{disk_order}
use Rattle.gptguid_core.proofs.Orders.{ordered_twice, swapped}
use Rattle.gptguid_core.proofs.Spelled.{parsed_at_36}
use Rattle.gptguid_core.proofs.forms.text_of.Goals as goal

pub returns-clause-value : goal.returns-clause-value
returns-clause-value c =
    c.encode_upper.ensures.text ∙ ap (hyphenated_text upper) (c.hyphenated.ensures ∙ c.from_bytes_le.ensures ∙ swapped c.args.guid.now (search rules))

pub returns-clause-back : goal.returns-clause-back
returns-clause-back c =
    let text = c.encode_upper.result.now in
    let sixteen : length c.args.guid.now ≡ 16 = search rules in
    let ordered = c.hyphenated.ensures ∙ c.from_bytes_le.ensures ∙ swapped c.args.guid.now sixteen in
    let long = ap length c.encode_upper.ensures.text ∙ by_index_length 36 _ in
    ap (option_map disk_order) (sym (c.encode_upper.ensures.parsed ∙ parsed_at_36 text long))
    ∙ ap Some (ap disk_order ordered ∙ ordered_twice c.args.guid.now sixteen)
