use Rattle.std.proofs.Common.{◌≡◌, ◌++◌, ℕ, List, take}
use Rattle.std.specs.Str.Parse.{IsNumeral}
use Rattle.gptedit_values.proofs.Tables.{Lacks}
use Rattle.gptedit_values.proofs.amount.unit_before.Given as goal

abbrev pub invariant-loop-unit : goal.invariant-loop-unit
invariant-loop-unit l =
    Lacks (λ row. row.name.now) (λ name. (number : List ℕ) × IsNumeral 10 number × (l.text ≡ number ++ name)) (take l.unit-index l.units)
