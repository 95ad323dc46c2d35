use Rattle.std.proofs.Common.{◌≡◌, ◌≤◌, ◌*◌, ◌-◌, ◌+◌, ◌^◌, drop, sum}
use Rattle.gptedit_report.proofs.map.widths.total_of.Given as goal

abbrev pub invariant-loop-length : goal.invariant-loop-length
invariant-loop-length l = (l.total + sum (drop l.length-index l.lengths) ≡ sum l.lengths) × (l.total ≤ l.length-index * (2 ^ 64 - 1))
