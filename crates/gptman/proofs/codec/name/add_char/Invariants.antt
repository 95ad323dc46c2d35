use Rattle.std.proofs.Common.{ℕ, List, ◌++◌, take}
use Rattle.gptman.specs.Name.{HasUnits}
use Rattle.gptman.proofs.codec.name.add_char.Given as goal

abbrev pub invariant-loop-unit : goal.invariant-loop-unit
invariant-loop-unit l = (us : List ℕ) → HasUnits l.fn.units l.fn.len us → HasUnits l.units l.len (us ++ take l.unit-index l.unit-items)
