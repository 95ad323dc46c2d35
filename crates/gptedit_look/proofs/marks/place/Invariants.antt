use Rattle.std.proofs.Common.{◌≤◌, ◌<◌, All}
use Rattle.gptedit_look.proofs.marks.place.Given as goal

abbrev pub invariant-loop-one : goal.invariant-loop-one
invariant-loop-one l = All (λ c. (l.start ≤ c.start) × (c.start < l.end)) l.contents.items
