-- The ranges of the disk for which the plan of a write asks.
use Rattle.std.specs.Prelude.{◌++◌, ℕ, List, [], length, Result, Ok, Err}
use Rattle.gptman.specs.Copy.{Copy}
use Rattle.gptman.specs.Fault.{Fault}
use Rattle.gptman.specs.Reading.{reading_of}
use Rattle.gptman.specs.Table.{table_in, table_of}
use Rattle.gptman.specs.declared.table.GPT.{GPT}
use Rattle.gptman_plan.specs.Crossing.{four_ranges}
use Rattle.gptman_plan.specs.Planning.{fitted}
use Rattle.gptman_plan.specs.Reading.{OfEvery}
use Rattle.gptman_plan.specs.Rounds.{IsAmong, reading_ranges}
use Rattle.gptman_plan.specs.declared.ends.Ends.{Ends}
use Rattle.gptman_plan.specs.declared.planning.PlanError.{PlanError}
use Rattle.gptman_plan.specs.declared.planning.PlanError.TheVariants.{BadArgument, Refused, Lacks, OtherLength, OtherLayout}

-- the four ranges of the table that was read, if one was, on a disk of len bytes
abbrev pub table_ranges : ℕ → ℕ → Result Copy Fault → List (ℕ × ℕ)
table_ranges ss len (Ok copy) = four_ranges (table_of copy.header copy.entries) ss len
table_ranges ss len (Err fault) = []

-- those of this table fitted to the disk
abbrev pub fitted_ranges : ℕ → ℕ → Result Copy Fault → List (ℕ × ℕ)
fitted_ranges ss len (Ok copy) = four_ranges (fitted copy ss len) ss len
fitted_ranges ss len (Err fault) = []

-- the ranges for which a plan may ask that writes the table on the disk with other entries
abbrev pub plan_ranges : List ℕ → ℕ → List (ℕ × ℕ)
plan_ranges b ss = reading_ranges b ss ++ table_ranges ss (length b) (reading_of b ss)

-- the ranges for which a plan may ask that writes that table fitted to the disk
abbrev pub fit_ranges : List ℕ → ℕ → List (ℕ × ℕ)
fit_ranges b ss = reading_ranges b ss ++ fitted_ranges ss (length b) (reading_of b ss)

-- the ranges for which a plan may ask that writes this value to a disk of len bytes
abbrev pub value_ranges : GPT → ℕ → List (ℕ × ℕ)
value_ranges g len = four_ranges (table_in g) g.sector_size len

-- if a refusal asks for a range, it is one of these places on every disk with these ends
abbrev pub AsksAmong : (List ℕ → List (ℕ × ℕ)) → Ends → PlanError → Type 0
AsksAmong places ends BadArgument = Unit {0}
AsksAmong places ends (Refused e) = Unit {0}
AsksAmong places ends (Lacks lack) = OfEvery ends (λ b. IsAmong (lack.from, lack.length) (places b))
AsksAmong places ends OtherLength = Unit {0}
AsksAmong places ends OtherLayout = Unit {0}

-- the refusal asks for no range
abbrev pub AsksNothing : PlanError → Type 0
AsksNothing BadArgument = Unit {0}
AsksNothing (Refused e) = Unit {0}
AsksNothing (Lacks lack) = ⊥
AsksNothing OtherLength = Unit {0}
AsksNothing OtherLayout = Unit {0}
