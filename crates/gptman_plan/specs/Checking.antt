-- A check of both copies, given only the ends of the disk.
use Rattle.std.specs.Prelude.{◌≡◌, ◌≤◌, ℕ, List, Result, Ok, Err, IsTrue, replicate}
use Rattle.gptman.specs.Answers.{answer_of}
use Rattle.gptman.specs.Copy.{Copy, copy_of_whole}
use Rattle.gptman.specs.Fault.{Fault}
use Rattle.gptman.specs.Reading.{CopyPlace, primary, backup, copy_in}
use Rattle.gptman.specs.Copies.{HoldOneTable}
use Rattle.gptman.specs.declared.copies.BothCopies.{BothCopies}
use Rattle.gptman_plan.specs.Ends.{zeroed}
use Rattle.gptman.specs.Fault.{fault_number}
use Rattle.gptman_plan.specs.Reading.{IsLackOf, OfEvery}
use Rattle.gptman_plan.specs.Rounds.{reading_ranges}
use Rattle.gptman_plan.specs.declared.checking.Look.{Look}
use Rattle.gptman_plan.specs.declared.checking.Look.TheVariants.{Known, Unknown}
use Rattle.gptman_plan.specs.declared.ends.Ends.{Ends}
use Rattle.gptman_plan.specs.declared.records.Check.{Check}

-- the number of the fault of a copy, or 0
abbrev pub number_in : Result Copy Fault → ℕ
number_in (Ok copy) = 0
number_in (Err fault) = fault_number fault

-- The result of a check of these bytes: the fault of each copy, and whether both places hold one table, each in the
-- form of its place.
pub record IsCheckResult (b : List ℕ) (ss : ℕ) (check : Check) : Type 0 where
  pub at_primary : check.primary_fault ≡ number_in (copy_in primary b ss)
  pub at_backup : check.backup_fault ≡ number_in (copy_in backup b ss)
  pub same : check.are_same ≡ 1 → HoldOneTable b ss
  pub differ : HoldOneTable b ss → check.are_same ≡ 1
  pub flag : check.are_same ≤ 1
  pub reserved : check.reserved ≡ replicate 5 0

-- on every disk with these ends, each place has the same copy, or the same fault, as on the disk with zeros between
-- them
abbrev pub AreCopiesKnown : Ends → ℕ → Type 0
AreCopiesKnown ends ss = (side : CopyPlace) → OfEvery ends (λ b. copy_in side b ss ≡ copy_in side (zeroed ends) ss)

-- The two copies were read from these bytes.
pub record AreFoundIn (b : List ℕ) (ss : ℕ) (copies : BothCopies) : Type 0 where
  pub at_primary : answer_of copy_of_whole copies.primary ≡ copy_in primary b ss
  pub at_backup : answer_of copy_of_whole copies.backup ≡ copy_in backup b ss
  pub same : IsTrue copies.are_same → HoldOneTable b ss
  pub differ : HoldOneTable b ss → IsTrue copies.are_same

-- a result that holds for every disk with these ends, or a range that they do not have
abbrev pub IsLook : Ends → ℕ → Look → Type 0
IsLook ends ss (Known check) = OfEvery ends (λ b. IsCheckResult b ss check)
IsLook ends ss (Unknown lack) = IsLackOf (λ b. reading_ranges b ss) ends lack
