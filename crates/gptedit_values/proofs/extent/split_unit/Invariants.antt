use Rattle.std.proofs.Common.{◌≡◌, ◌++◌, ℕ, List, take}
use Rattle.gptedit_values.specs.Scripts.{script_units}
use Rattle.gptedit_values.proofs.Tables.{AreRows, Lacks}
use Rattle.gptedit_values.proofs.extent.split_unit.Given as goal

abbrev pub invariant-loop-unit : goal.invariant-loop-unit
invariant-loop-unit l = record {
  names : AreRows (λ row. row.name.now) (λ row. row.bytes) script_units l.unit-items;
  letters : AreRows (λ row. row.letter.now) (λ row. row.bytes) script_units l.unit-items;
  no_name : Lacks (λ row. row.name.now) (λ name. (number : List ℕ) × (l.text ≡ number ++ name)) (take l.unit-index l.unit-items);
  no_letter : Lacks (λ row. row.letter.now) (λ name. (number : List ℕ) × (l.text ≡ number ++ name)) (take l.unit-index l.unit-items);
}
