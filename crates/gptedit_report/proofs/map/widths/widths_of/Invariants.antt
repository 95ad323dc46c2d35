use Rattle.std.proofs.Common.{◌≡◌, ◌≤◌, ◌<◌, ◌+◌, ◌*◌, ◌/◌, drop, sum, vec_len}
use Rattle.std.specs.Prelude.{All}
use Rattle.gptedit_report.proofs.map.widths.widths_of.Given as goal

abbrev pub invariant-loop-length : goal.invariant-loop-length
invariant-loop-length l =
    (l.passed + sum (drop l.length-index l.lengths) ≡ sum l.lengths)
    × (l.used ≤ l.spare)
    × (l.used * l.total ≤ l.spare * l.passed + l.total / 2)
    × (0 < l.length-index → l.passed ≡ l.total → l.used ≡ l.spare)
    × (vec_len l.widths ≡ l.length-index)
    × All (λ width. 1 ≤ width) l.widths.items
    × (sum l.widths.items ≡ l.length-index + l.used)
