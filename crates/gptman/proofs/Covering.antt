-- The entry that covers a sector.
use Rattle.std.proofs.Common.{◌≡◌, ◌≤◌, ◌<◌, ℕ, zero, suc, ◌+◌, ◌-◌, Bool, true, false, List, [], ◌∷◌, length, get_or, Some, IsTrue, arith, refl, rules}
use Rattle.std.specs.Prelude.{nat_lt}
use Rattle.std.specs.List.{position_or_len}
use Rattle.gptman.specs.Coding.{empty_entry}
use Rattle.gptman.specs.Entry.{covers}
use Rattle.gptman.specs.Number.{number_at}
use Rattle.gptman.specs.Valid.{IsValid}
use Rattle.gptman.specs.declared.codec.entry.GPTPartitionEntry.{GPTPartitionEntry}
use Rattle.gptman.specs.declared.codec.header.GPTHeader.{GPTHeader}

-- The first index that passes, if none before it does.
first_place : {X : Type 0} (p : X → Bool) (xs : List X) (k : ℕ) (d : X) → k < length xs → p (get_or xs k d) ≡ true → ((j : ℕ) → j < k → p (get_or xs j d) ≡ false) → position_or_len p xs ≡ k
first_place p [] k d below hit before = omega (arith, below)
first_place p (x ∷ xs) zero d below hit before = rw hit refl
first_place p (x ∷ xs) (suc k) d below hit before =
    let first : p x ≡ false = before 0 (omega arith) in
    let rest : position_or_len p xs ≡ k = first_place p xs k d (omega (arith, below)) hit (λ j h. before (suc j) (omega (arith, h))) in
    rw (first, rest) (let next : 1 + k ≡ suc k = omega arith in next)

not_true : (b : Bool) → ¬ IsTrue b → b ≡ false
not_true true never = search rules
not_true false never = refl

-- In a table that may be written, at most one entry covers a sector.
pub only_number : (h : GPTHeader) (es : List GPTPartitionEntry) (sector i : ℕ) → IsValid h es → 1 ≤ i → i ≤ length es → IsTrue (covers sector (get_or es (i - 1) empty_entry)) → number_at sector es ≡ Some i
only_number h es sector i valid low high covered =
    let k : ℕ = i - 1 in
    let below : k < length es = omega (arith, low, high) in
    let before : (j : ℕ) → j < k → covers sector (get_or es j empty_entry) ≡ false =
    λ j earlier. not_true _ (λ other. valid.boundaries.disjoint j k empty_entry earlier below sector other covered) in
    let place : position_or_len (covers sector) es ≡ k = first_place (covers sector) es k empty_entry below covered before in
    let inside : nat_lt k (length es) ≡ true = grind arith in
    let back : k + 1 ≡ i = omega (arith, low) in
    rw (place, inside, back) refl
