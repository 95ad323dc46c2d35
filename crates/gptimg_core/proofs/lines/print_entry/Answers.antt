use Rattle.std.proofs.Common.{append_assoc}
use Rattle.gptimg_core.proofs.Printing.{appends_then, line_ends}
use Rattle.gptimg_core.proofs.lines.print_entry.Goals as goal

pub returns : goal.returns
returns g c =
    let named = appends_then _ _ _ _ _ c.in_ok-write.ensures.bytes c.in_ok-print_guids.ensures in
    let placed = appends_then _ _ _ _ _ named c.in_ok-write-2.ensures.bytes in
    let attributed = appends_then _ _ _ _ _ (appends_then _ _ _ _ _ placed c.in_ok-write_all.ensures.bytes) c.in_ok-write_all-2.ensures.bytes in
    line_ends _ _ _ _ _ _ c.write_all-3.result (appends_then _ _ _ _ _ attributed c.in_ok-print_text.ensures) c.write_all-3.ensures.bytes
    (simp (c.number_text.ensures, c.as_str.ensures, append_assoc))
