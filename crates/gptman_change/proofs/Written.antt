-- A plan that never leaves a table has written the table that it changed.
use Rattle.std.proofs.Common.{ℕ}
use Rattle.std.specs.Prelude.{Option, Result, Ok, Err, IfOk}
use Rattle.gptman.specs.Disk.{DiskState}
use Rattle.gptman.specs.declared.table.GPT.{GPT}
use Rattle.gptman.specs.Error.{Error}
use Rattle.gptman_change.specs.Changes.{is_left, is_written, AnswersChange, MakesChange}
use Rattle.gptman_change.specs.Planning.{Leaves, Makes}

module _ {A : Type 0} (made : Makes A) (left : Leaves A) (never : (table : GPT) (answer : A) → ¬ left table answer) (size : Option ℕ) (old new : DiskState) where
  is_change : (answer : A) → AnswersChange made left size answer old new → MakesChange made size answer old new
  is_change answer (is_written is) = is
  is_change answer (is_left is) = absurd (never is.table answer is.answered)

  pub is_made : (r : Result A Error) → IfOk r (λ answer. AnswersChange made left size answer old new) → IfOk r (λ answer. MakesChange made size answer old new)
  is_made (Ok answer) is = is_change answer is
  is_made (Err e) is = tt
