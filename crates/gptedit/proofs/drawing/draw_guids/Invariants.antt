use Rattle.std.proofs.Common.{◌≤◌, length}
use Rattle.gptedit.proofs.drawing.draw_guids.Given as goal

abbrev pub invariant-loop-drawn : goal.invariant-loop-drawn
invariant-loop-drawn g l = l.drawn ≤ length l.guids.items
