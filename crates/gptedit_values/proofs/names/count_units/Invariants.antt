use Rattle.std.proofs.Common.{◌≡◌, ◌-◌, ◌^◌, length, min, flat_map}
use Rattle.std.specs.Char.Escape.{encode_utf16}
use Rattle.gptedit_values.proofs.names.count_units.Given as goal

abbrev pub invariant-loop-c : goal.invariant-loop-c
invariant-loop-c l = l.units ≡ min (length (flat_map encode_utf16 l.yielded)) (2 ^ 64 - 1)
