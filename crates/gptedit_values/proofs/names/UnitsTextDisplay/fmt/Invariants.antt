use denote.Text.{Utf8}
use denote.Shadow.{shadow}
use Rattle.gptedit_values.proofs.names.UnitsTextDisplay.fmt.Given as goal

-- Each `&str` that the loop changes is text.
abbrev pub invariant-loop-unit : goal.invariant-loop-unit
invariant-loop-unit g l =
    (goal.iterator-loop-unit g).can_next l.unit-iterator ×
    (goal.iterator-loop-unit g).is_finite l.unit-iterator ×
    shadow (Utf8 l.space)
