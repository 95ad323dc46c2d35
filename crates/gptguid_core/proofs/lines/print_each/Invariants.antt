use Rattle.std.proofs.Common.{map, take}
use Rattle.std.specs.Io.KnownBytes.{Appends}
use Rattle.gptguid_core.specs.Lines.{type_lines}
use Rattle.gptguid_core.proofs.lines.print_each.Given as goal

abbrev pub invariant-loop-name : goal.invariant-loop-name
invariant-loop-name g l =
    Appends (g.W.Write.contents l.fn.out) (g.W.Write.contents l.out) (type_lines (map (λ t. (t.0.now, t.1)) (take l.name-index l.types)))
