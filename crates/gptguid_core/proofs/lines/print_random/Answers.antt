use Rattle.std.proofs.Common.{rules, Some}
use Rattle.gptguid_core.proofs.lines.print_random.Goals as goal

pub returns-in_err-print_digits : goal.returns-in_err-print_digits
returns-in_err-print_digits g c =
    (Some c.fill_bytes.new.buf, (search rules, search rules), search rules, search rules)

pub returns : goal.returns
returns g c =
    (Some c.fill_bytes.new.buf, (search rules, search rules), search rules, rw c.from_random.ensures.value at c.in_ok-print_digits.ensures)
