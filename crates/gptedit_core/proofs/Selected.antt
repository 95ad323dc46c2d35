-- Numbers, found for targets one by one.
use Rattle.std.proofs.Common.{◌≡◌, ◌++◌, ◌∷◌, [], ℕ, List, subst}
use Rattle.std.proofs.lemmas.List.{append_assoc, append-nil}
use Rattle.gptman.specs.declared.table.GPT.{GPT}
use Rattle.gptedit_core.specs.Selecting.{AreOnly}
use Rattle.gptedit_core.specs.Targets.{IsOnly}
use Rattle.gptedit_core.specs.declared.target.Target.{Target}

-- the numbers found so far and those of the remaining targets are those of all targets
abbrev pub Finds : GPT → List Target → List ℕ → List Target → Type 0
Finds g left done all = (rest : List ℕ) → AreOnly g left rest → AreOnly g all (done ++ rest)

pub find_first : (g : GPT) (all : List Target) (done : List ℕ) → done ≡ [] → Finds g all done all
find_first g all done none = λ rest given. rw (none) given

pub find_next : (g : GPT) (target : Target) (left all : List Target) (done : List ℕ) (i : ℕ) → IsOnly g target i
    → Finds g (target ∷ left) done all → Finds g left (done ++ i ∷ []) all
find_next g target left all done i only sofar = λ rest given. rw (append_assoc done (i ∷ []) rest) (sofar (i ∷ rest) (only, given))

pub find_last : (g : GPT) (all : List Target) (done : List ℕ) → Finds g [] done all → AreOnly g all done
find_last g all done sofar = subst (λ (d : List ℕ). AreOnly g all d) (append-nil done) (sofar [] tt)
