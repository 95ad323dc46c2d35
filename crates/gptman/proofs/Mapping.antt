-- A loop by number that replaces each entry e by f e.
use Rattle.std.proofs.Common.{◌≡◌, ℕ, zero, suc, ◌+◌, ◌-◌, List, [], ◌∷◌, ◌++◌, map, take, drop, slice_get, slice_set, Some, sym, ◌∙◌, ap, add-one, arith}
use Rattle.gptman.specs.declared.codec.entry.GPTPartitionEntry.{GPTPartitionEntry}
use Rattle.gptman.specs.declared.table.GPT.{GPT}
use Rattle.gptman.specs.Number.{with_entry, with_entries}
use Rattle.gptman.specs.Table.{entries_in}

-- f of the first n elements, and the others unchanged.
abbrev pub mapped_to : {X : Type 0} → (X → X) → ℕ → List X → List X
mapped_to f n xs = map f (take n xs) ++ drop n xs

mapped_more : {X : Type 0} (f : X → X) (xs : List X) (k : ℕ) (e : X) → slice_get (mapped_to f k xs) k ≡ Some e → slice_set (mapped_to f k xs) k (f e) ≡ mapped_to f (suc k) xs
mapped_more f [] zero e h = cc
mapped_more f [] (suc k) e h = cc
mapped_more f (x ∷ xs) zero e h = let same : x ≡ e = cc in ap (λ y. f y ∷ xs) (sym same)
mapped_more f (x ∷ xs) (suc k) e h = ap (λ ys. f x ∷ ys) (mapped_more f xs k e h)

-- One iteration: entry k + 1 is read as e, and f e is written.
pub entry_mapped : (f : GPTPartitionEntry → GPTPartitionEntry) (was g : GPT) (k : ℕ) (e : GPTPartitionEntry)
    → g ≡ with_entries was (mapped_to f k (entries_in was)) → slice_get (entries_in g) (k + 1 - 1) ≡ Some e
    → with_entry g (k + 1) (f e) ≡ with_entries was (mapped_to f (k + 1) (entries_in was))
entry_mapped f was g k e is got =
    let z : k + 1 - 1 ≡ k = omega arith in
    let read : slice_get (mapped_to f k (entries_in was)) k ≡ Some e = ap (λ (h : GPT). slice_get (entries_in h) k) (sym is) ∙ ap (λ (n : ℕ). slice_get (entries_in g) n) (sym z) ∙ got in
    ap (λ (h : GPT). with_entry h (k + 1) (f e)) is
    ∙ ap (with_entries was)
    (ap (λ (n : ℕ). slice_set (mapped_to f k (entries_in was)) n (f e)) z ∙ mapped_more f (entries_in was) k e read
    ∙ ap (λ (n : ℕ). mapped_to f n (entries_in was)) (sym (add-one k)))
