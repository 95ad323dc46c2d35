use Rattle.std.proofs.Common.{◌≡◌, drop, map}
use Rattle.gptguid_core.specs.OtherTypes.{number_in_any_case}
use Rattle.gptguid_core.proofs.names.find_in_any_case.Given as goal

abbrev pub invariant-loop-known : goal.invariant-loop-known
invariant-loop-known l =
    number_in_any_case (map (λ t. (t.0.now, t.1)) (drop l.known-index l.types)) l.fn.name ≡ number_in_any_case (map (λ t. (t.0.now, t.1)) l.fn.types) l.fn.name
