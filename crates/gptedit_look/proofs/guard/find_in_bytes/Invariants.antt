use Rattle.std.proofs.Common.{◌≡◌, ℕ, ◌<◌, ◌+◌, ◌⊎◌, get_or}
use Rattle.gptedit_look.specs.Guard.{IsAllowed}
use Rattle.gptedit_look.proofs.guard.find_in_bytes.Given as goal

abbrev pub invariant-loop-i : goal.invariant-loop-i
invariant-loop-i l = (k : ℕ) → k < l.i → (get_or l.bytes k 0 ≡ 0) ⊎ IsAllowed l.grounds.look.now l.grounds.purpose l.grounds.next.now (l.at + k)
