-- Partitions, read from texts one by one.
use Rattle.std.proofs.Common.{◌≡◌, ◌++◌, ◌∷◌, [], ℕ, List, subst}
use Rattle.std.proofs.lemmas.List.{append_assoc, append-nil}
use Rattle.gptedit_core.specs.declared.target.Target.{Target}
use Rattle.gptedit_values.specs.Words.{SaysTarget}
use Rattle.gptedit_words.specs.Asks.{AreTargets}

-- the partitions read so far and those of the remaining texts are those of all texts
abbrev pub Collects : List (List ℕ) → List Target → List (List ℕ) → Type 0
Collects left done all = (rest : List Target) → AreTargets left rest → AreTargets all (done ++ rest)

pub collect_first : (all : List (List ℕ)) (done : List Target) → done ≡ [] → Collects all done all
collect_first all done none = λ rest given. rw (none) given

pub collect_next : (text : List ℕ) (left all : List (List ℕ)) (done : List Target) (target : Target) → SaysTarget text target
    → Collects (text ∷ left) done all → Collects left (done ++ target ∷ []) all
collect_next text left all done target says sofar = λ rest given. rw (append_assoc done (target ∷ []) rest) (sofar (target ∷ rest) (says, given))

pub collect_last : (all : List (List ℕ)) (done : List Target) → Collects [] done all → AreTargets all done
collect_last all done sofar = subst (λ (d : List Target). AreTargets all d) (append-nil done) (sofar [] tt)
