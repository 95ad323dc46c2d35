-- The output of a command, and its exit status.
use Rattle.std.specs.Prelude.{◌≡◌, ℕ, List, Option, Result, Ok, Err, IfOk, OnOk, if◌then◌else◌}
use Rattle.std.specs.Io.KnownBytes.{Appends}
use Rattle.gptman.specs.Disk.{DiskState}
use Rattle.gptman.specs.Fault.{fault_of}
use Rattle.gptman.specs.Error.{Error}
use Rattle.gptimg_core.specs.Checks.{is_good}
use Rattle.gptimg_core.specs.Does.{Does, Outcome}
use Rattle.gptimg_core.specs.Lines.{report_lines}
use Rattle.gptimg_core.specs.Names.{fault_line}
use Rattle.gptimg_core.specs.declared.words.Command.{Command}

-- the lines of a result
abbrev pub outcome_lines : Outcome → List ℕ
outcome_lines (Ok report) = report_lines report
outcome_lines (Err e) = fault_line (fault_of e)

-- the exit status: 0 if the command succeeded, 1 if it failed, or found copies that are not one table
abbrev pub outcome_status : Outcome → ℕ
outcome_status (Ok report) = if is_good report then 0 else 1
outcome_status (Err e) = 1

-- A command had its effect on the disk, and its result was printed, unless `out` failed.
pub record Runs (command : Command) (result : Result ℕ Error) (old new : DiskState) (from to : Option (List ℕ)) : Type 0 where
  pub outcome : Outcome
  pub does : Does command outcome old new
  pub printed : OnOk result (Appends from to (outcome_lines outcome))
  pub status : IfOk result (λ status. status ≡ outcome_status outcome)
