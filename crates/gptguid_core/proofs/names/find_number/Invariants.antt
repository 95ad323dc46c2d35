use Rattle.std.proofs.Common.{◌≡◌, drop, map}
use Rattle.gptguid_core.specs.Types.{number_in}
use Rattle.gptguid_core.proofs.names.find_number.Given as goal

abbrev pub invariant-loop-known : goal.invariant-loop-known
invariant-loop-known l =
    number_in (map (λ t. (t.0.now, t.1)) (drop l.known-index l.types)) l.fn.name ≡ number_in (map (λ t. (t.0.now, t.1)) l.fn.types) l.fn.name
