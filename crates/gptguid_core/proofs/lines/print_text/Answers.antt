use Rattle.gptguid_core.proofs.Printing.{line_ends}
use Rattle.gptguid_core.proofs.lines.print_text.Goals as goal

pub returns : goal.returns
returns g c =
    line_ends _ _ _ _ _ _ c.write_all-2.result c.in_ok-write_all.ensures.bytes c.write_all-2.ensures.bytes
    (simp (c.as_bytes.ensures.value, c.text_of.ensures.value))
