use Rattle.std.proofs.Common.{flat_map}
use Rattle.std.specs.Char.Escape.{encode_utf16}
use Rattle.gptman.specs.Name.{HasUnits}
use Rattle.gptman.proofs.codec.name.PartitionName.new.Given as goal

abbrev pub invariant-loop-c : goal.invariant-loop-c
invariant-loop-c l = HasUnits l.units l.len (flat_map encode_utf16 l.yielded)
