-- The words of a command that only reads.
use Rattle.std.proofs.Common.{◌≡◌, ◌<◌, ◌^◌, ℕ, List, Bool, true, false, refl, sym, subst}
use Rattle.std.specs.Prelude.{IsTrue, Some, Result, Ok, Err, OnOk}
use Rattle.gptimg_core.specs.Asks.{writes}
use Rattle.gptimg_core.specs.Spelling.{spell, IsAllowed, IsSpelled}
use Rattle.gptimg_core.specs.declared.words.Command.{Command}
use Rattle.gptimg_core.specs.declared.words.Command.TheVariants.{Show}

-- The words spell the command.
pub spells : ((command : Command) → IsAllowed command → IsSpelled (spell command) command) → (texts : List (List ℕ)) (n : ℕ) → 0 < n → n < 2 ^ 64 → texts ≡ spell (Show (Some n))
    → IsSpelled texts (Show (Some n))
spells law texts n above below is = subst (λ (words : List (List ℕ)). IsSpelled words (Show (Some n))) (sym is) (law (Show (Some n)) (above, below))

-- The words spell no other command, and so none that writes.
pub writes_not : ((words : List (List ℕ)) (a b : Command) → IsSpelled words a → IsAllowed a → IsSpelled words b → IsAllowed b → a ≡ b) → (texts : List (List ℕ)) (n : ℕ) → 0 < n → n < 2 ^ 64
    → IsSpelled texts (Show (Some n)) → (command : Command) → IsSpelled texts command → IsAllowed command → ¬ (writes command ≡ true)
writes_not law texts n above below spelled command also allowed = λ it_writes.
    let same : Show (Some n) ≡ command = law texts (Show (Some n)) command spelled (above, below) also allowed in
    let no : writes (Show (Some n)) ≡ true = subst (λ (c : Command). writes c ≡ true) (sym same) it_writes in
    absurd (cc)

pub in_any_case : {T E P : Type 0} (r : Result T E) → P → OnOk r P
in_any_case (Ok x) p = p
in_any_case (Err e) p = tt

pub not_true : (b : Bool) → ¬ IsTrue b → b ≡ false
not_true true untrue = absurd (untrue refl)
not_true false untrue = refl
