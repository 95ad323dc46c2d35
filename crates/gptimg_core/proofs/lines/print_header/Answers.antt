use Rattle.std.proofs.Common.{append_assoc}
use Rattle.gptimg_core.proofs.Printing.{appends_then, line_ends}
use Rattle.gptimg_core.proofs.lines.print_header.Goals as goal

pub returns : goal.returns
returns g c =
    line_ends _ _ _ _ _ _ c.writeln.result (appends_then _ _ _ _ _ c.in_ok-write.ensures.bytes c.in_ok-write_all.ensures.bytes) c.writeln.ensures.bytes
    (simp (c.form_name-form.ensures, c.guid_text.ensures, append_assoc))
