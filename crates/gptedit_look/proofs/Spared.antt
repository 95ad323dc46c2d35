-- A write of the table spares all else, if no obstacle was found.
use Rattle.std.proofs.Common.{◌≡◌, ◌≤◌, ◌<◌, ◌⊎◌, ⊎_elim, ◌∙◌, ◌+◌, ℕ, List, [], ◌∷◌, length, get_or, inl, inr, sym, subst, arith, Option, None}
use Rattle.std.proofs.lemmas.Bool.{cases_lt}
use Rattle.std.proofs.lemmas.List.{get_or_past}
use Rattle.gptman.specs.Disk.{Outside}
use Rattle.gptman.specs.Ranges.{Inside}
use Rattle.gptman.specs.TableWrites.{table_ranges}
use Rattle.gptman.specs.declared.table.GPT.{GPT}
use Rattle.gptedit_look.specs.Guarded.{AreAllFree, IsRefusedOf, SparesOthers}
use Rattle.std.specs.Prelude.{MatchOption}
use Rattle.gptedit_look.specs.declared.guard.Refused.{Refused}
use Rattle.gptedit_look.specs.declared.seen.Look.{Look}
use Rattle.gptedit_look.specs.declared.seen.Purpose.{Purpose}

-- k is in a range or outside it
pub in_or_out : (start n k : ℕ) → ((start ≤ k) × (k < start + n)) ⊎ ((k < start) ⊎ (start + n ≤ k))
in_or_out start n k =
    ⊎_elim (λ (below : k < start). inr (inl below)) (λ (from : start ≤ k).
    ⊎_elim (λ (lt : k < start + n). inl (from, lt)) (λ (past : start + n ≤ k). inr (inr past)) (cases_lt k (start + n))) (cases_lt k start)

-- k is in one of the ranges or outside all
pub inside_or_outside : (rs : List (ℕ × ℕ)) (k : ℕ) → Inside rs k ⊎ Outside rs k
inside_or_outside [] k = inr tt
inside_or_outside (r ∷ rs) k =
    ⊎_elim (λ here. inl (inl here)) (λ out. ⊎_elim (λ more. inl (inr more)) (λ others. inr (out, others)) (inside_or_outside rs k)) (in_or_out r.0 r.1 k)

-- if each touched byte may be overwritten, so may each changed one
pub spares_others : (look : Look) (purpose : Purpose) (next : GPT) (b : List ℕ) (size : ℕ) → length b ≡ size
    → AreAllFree look purpose next b size → SparesOthers look purpose next b
spares_others look purpose next b size long free c agrees k clear changed =
    let past : size ≤ k → get_or c k 0 ≡ get_or b k 0 =
    λ (from : size ≤ k).
    let short_b : length b ≤ k = omega arith in
    let short_c : length c ≤ k = omega (arith, agrees.long) in
    get_or_past c k 0 short_c ∙ sym (get_or_past b k 0 short_b) in
    ⊎_elim
    (λ written. ⊎_elim (λ (lt : k < size). free k written lt) (λ (from : size ≤ k). absurd (changed (past from))) (cases_lt k size))
    (λ out. absurd (changed (agrees.same k (clear.0, out))))
    (inside_or_outside (table_ranges next) k)

-- the same from a result of None
pub spares_found : (look : Look) (purpose : Purpose) (next : GPT) (b : List ℕ) (size : ℕ) (found : Option Refused) → length b ≡ size → found ≡ None
    → MatchOption found (AreAllFree look purpose next b size) (λ refused. IsRefusedOf look purpose next b refused.at) → SparesOthers look purpose next b
spares_found look purpose next b size found long none answer =
    let free : AreAllFree look purpose next b size =
    subst (λ (o : Option Refused). MatchOption o (AreAllFree look purpose next b size) (λ refused. IsRefusedOf look purpose next b refused.at)) none answer in
    spares_others look purpose next b size long free
