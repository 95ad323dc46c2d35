use Rattle.std.proofs.Common.{◌≡◌, drop, map}
use Rattle.gptguid_core.specs.Types.{name_in}
use Rattle.gptguid_core.proofs.names.find_name.Given as goal

abbrev pub invariant-loop-name : goal.invariant-loop-name
invariant-loop-name l =
    name_in (map (λ t. (t.0.now, t.1)) (drop l.name-index l.types)) l.fn.guid ≡ name_in (map (λ t. (t.0.now, t.1)) l.fn.types) l.fn.guid
