use Rattle.std.specs.Prelude.{option_copied}
use Rattle.std.specs.List.{AllWithin}
use Rattle.gptedit_look.specs.Harm.{IsAllowed}
use Rattle.gptedit_look.proofs.uses.Users.find_harm.Given as goal

-- each earlier use permits the change
abbrev pub invariant-loop-found : goal.invariant-loop-found
invariant-loop-found l =
    AllWithin (λ found. IsAllowed found.part (option_copied l.was) (option_copied l.next)) l.found-items 0 l.found-index
