use Rattle.std.proofs.Common.{append_assoc}
use Rattle.gptguid_core.proofs.Printing.{appends_then, line_ends}
use Rattle.gptguid_core.proofs.lines.print_type.Goals as goal

pub returns : goal.returns
returns g c =
    let named = appends_then _ _ _ _ _ c.in_ok-write_all.ensures.bytes c.in_ok-write_all-2.ensures.bytes in
    let told = appends_then _ _ _ _ _ (appends_then _ _ _ _ _ named c.in_ok-write_all-3.ensures.bytes) c.in_ok-write_all-4.ensures.bytes in
    line_ends _ _ _ _ _ _ c.print_text.result told c.print_text.ensures
    (simp (c.as_bytes.ensures.value, c.as_bytes-2.ensures.value, c.digits_of.ensures.value, c.guid_of_number-guid.ensures, append_assoc))
