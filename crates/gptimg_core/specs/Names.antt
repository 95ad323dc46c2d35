-- The names of faults, as printed.
use Rattle.std.specs.Prelude.{ℕ, List, ◌++◌, codes}
use Rattle.gptman.specs.Fault.{Fault, read_error, variant_name}

-- the name without numbers; if both copies have faults, with the names of both
abbrev pub fault_name : Fault → List ℕ
fault_name (read_error first second) = codes "ReadError(" ++ fault_name first ++ codes ", " ++ fault_name second ++ codes ")"
fault_name fault = variant_name fault

-- the line of a failed command
abbrev pub fault_line : Fault → List ℕ
fault_line fault = codes "fault: " ++ fault_name fault ++ codes "\n"
