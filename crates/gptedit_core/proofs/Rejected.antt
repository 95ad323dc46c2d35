-- Why a layout is refused.
use Rattle.std.proofs.Common.{◌≡◌, ◌∙◌, Bool, List, ap, sym, subst}
use Rattle.std.specs.Prelude.{Option, Some, Result, Ok, Err}
use Rattle.gptman.specs.declared.table.GPT.{GPT}
use Rattle.gptedit_core.specs.Matching.{all_found, matched, new_found, new_numbers, role_fault_unless, used_found}
use Rattle.gptedit_core.specs.Resolving.{and_then, unless, IsStopFor}
use Rattle.gptedit_core.specs.declared.asked.Asked.{Asked}
use Rattle.gptedit_core.specs.declared.matching.EntryMatch.{EntryMatch}
use Rattle.gptedit_core.specs.declared.refusal.Refusal.{Refusal}
use Rattle.gptedit_core.specs.declared.refusal.Stop.{Stop}
use Rattle.gptedit_core.specs.declared.refusal.Stop.TheVariants.{Refused, Failed}

and_then_stop : {A B : Type 0} (r : Result A Refusal) (f : A → Result B Refusal) (s : Stop) → IsStopFor r s → IsStopFor (and_then r f) s
and_then_stop r f (Refused x) is = ap (λ p. and_then p f) is
and_then_stop r f (Failed e) is = is

-- Too few entries are left for new partitions.
pub too_few : (g : GPT) (asked : List Asked) (replace : Bool) (found : List (Option EntryMatch)) (s : Stop) → found ≡ (used_found g asked).0
    → IsStopFor (all_found (new_found g asked (new_numbers g asked found) found)) s → IsStopFor (matched g asked replace) s
too_few g asked replace found s same is =
    and_then_stop (all_found (new_found g asked (new_numbers g asked (used_found g asked).0) (used_found g asked).0)) (λ ms. unless (role_fault_unless replace g asked ms) ms) s
    (subst (λ (fs : List (Option EntryMatch)). IsStopFor (all_found (new_found g asked (new_numbers g asked fs) fs)) s) same is)

-- An entry would get a new role.
pub new_role : (g : GPT) (asked : List Asked) (replace : Bool) (found : List (Option EntryMatch)) (ms : List EntryMatch) (r : Refusal) → found ≡ (used_found g asked).0
    → all_found (new_found g asked (new_numbers g asked found) found) ≡ Ok ms → role_fault_unless replace g asked ms ≡ Some r → matched g asked replace ≡ Err r
new_role g asked replace found ms r same is fault =
    ap (λ (p : Result (List EntryMatch) Refusal). and_then p (λ ms. unless (role_fault_unless replace g asked ms) ms))
    (ap (λ (fs : List (Option EntryMatch)). all_found (new_found g asked (new_numbers g asked fs) fs)) (sym same) ∙ is)
    ∙ ap (λ (o : Option Refusal). unless o ms) fault
