-- Entries that are read in blocks are those of all bytes.
use Rattle.std.proofs.Common.{◌≡◌, ◌≤◌, ◌+◌, ◌-◌, ◌*◌, ℕ, zero, suc, List, [], ◌∷◌, ◌++◌, length, take, drop, refl, sym, ap, ◌∙◌, arith, append_assoc, take-add}
use Rattle.std.specs.Prelude.{slice_range}
use Rattle.std.proofs.lemmas.List.{append-nil, drop-drop}
use Rattle.std.proofs.lemmas.List.FromFn.{map-range_with_len_more, length-map-range_with_len}
use Rattle.gptman_disk.specs.Bytes.{part}
use Rattle.gptman.specs.Coding.{entry_of}
use Rattle.gptman.specs.Copy.{entries_of}
use Rattle.gptman.specs.declared.codec.entry.GPTPartitionEntry.{GPTPartitionEntry}
use Rattle.gptman_disk.proofs.Overlays.{part-part}

-- Two adjacent parts.
pub part-more : (b : List ℕ) (at n m : ℕ) → part b at n ++ part b (at + n) m ≡ part b at (n + m)
part-more b at n m = ap (λ (xs : List ℕ). part b at n ++ take m xs) (sym (drop-drop n at b)) ∙ sym (take-add n m (drop at b))

-- A slice is a part.
pub part-slice : (b : List ℕ) (at n : ℕ) → slice_range b at (at + n) ≡ part b at n
part-slice b at n = let size : at + n - at ≡ n = omega arith in ap (λ (k : ℕ). take k (drop at b)) size

pub length-entries_of : (y : List ℕ) (n : ℕ) → length (entries_of y n) ≡ n
unfolding entries_of
length-entries_of y n = length-map-range_with_len (λ i. entry_of (part y (128 * i) 128)) 0 n

-- One more entry.
pub entries_of-more : (y : List ℕ) (n : ℕ) → entries_of y (n + 1) ≡ entries_of y n ++ entry_of (part y (128 * n) 128) ∷ []
unfolding entries_of
entries_of-more y n = map-range_with_len_more (λ i. entry_of (part y (128 * i) 128)) 0 n n (omega arith)

-- The first entries of more bytes.
entries_of-front : (b : List ℕ) (at k n : ℕ) → n ≤ k → entries_of (part b at (128 * k)) n ≡ entries_of (part b at (128 * n)) n
unfolding entries_of
entries_of-front b at k zero h = refl
entries_of-front b at k (suc n) h =
    let more : suc n ≡ n + 1 = omega arith in
    ap (entries_of (part b at (128 * k))) more ∙ entries_of-more (part b at (128 * k)) n
    ∙ ap (λ (es : List GPTPartitionEntry). es ++ entry_of (part (part b at (128 * k)) (128 * n) 128) ∷ [])
    (entries_of-front b at k n (omega arith) ∙ sym (entries_of-front b at (suc n) n (omega arith)))
    ∙ ap (λ (x : List ℕ). entries_of (part b at (128 * suc n)) n ++ entry_of x ∷ [])
    (part-part b at (128 * k) (128 * n) 128 (omega arith) ∙ sym (part-part b at (128 * suc n) (128 * n) 128 (omega arith)))
    ∙ sym (ap (entries_of (part b at (128 * suc n))) more ∙ entries_of-more (part b at (128 * suc n)) n)

-- A block after others.
pub entries_of-blocks : (b : List ℕ) (at n m : ℕ) → entries_of (part b at (128 * n)) n ++ entries_of (part b (at + 128 * n) (128 * m)) m ≡ entries_of (part b at (128 * (n + m))) (n + m)
unfolding entries_of
entries_of-blocks b at n zero =
    let same : n + 0 ≡ n = omega arith in
    append-nil (entries_of (part b at (128 * n)) n) ∙ sym (ap (λ (k : ℕ). entries_of (part b at (128 * k)) k) same)
entries_of-blocks b at n (suc m) =
    let more : suc m ≡ m + 1 = omega arith in
    let all : n + suc m ≡ n + m + 1 = omega arith in
    let front : List GPTPartitionEntry = entries_of (part b at (128 * n)) n in
    let next : ℕ = at + 128 * n in
    let here : part (part b next (128 * suc m)) (128 * m) 128 ≡ part (part b at (128 * (n + suc m))) (128 * (n + m)) 128 =
    part-part b next (128 * suc m) (128 * m) 128 (omega arith)
    ∙ ap (λ (k : ℕ). part b k 128) (let e : next + 128 * m ≡ at + 128 * (n + m) = omega arith in e)
    ∙ sym (part-part b at (128 * (n + suc m)) (128 * (n + m)) 128 (omega arith)) in
    ap (λ (es : List GPTPartitionEntry). front ++ es) (ap (entries_of (part b next (128 * suc m))) more ∙ entries_of-more (part b next (128 * suc m)) m)
    ∙ sym (append_assoc front (entries_of (part b next (128 * suc m)) m) (entry_of (part (part b next (128 * suc m)) (128 * m) 128) ∷ []))
    ∙ ap (λ (es : List GPTPartitionEntry). (front ++ es) ++ entry_of (part (part b next (128 * suc m)) (128 * m) 128) ∷ []) (entries_of-front b next (suc m) m (omega arith))
    ∙ ap (λ (es : List GPTPartitionEntry). es ++ entry_of (part (part b next (128 * suc m)) (128 * m) 128) ∷ [])
    (entries_of-blocks b at n m ∙ sym (entries_of-front b at (n + suc m) (n + m) (omega arith)))
    ∙ ap (λ (x : List ℕ). entries_of (part b at (128 * (n + suc m))) (n + m) ++ entry_of x ∷ []) here
    ∙ sym (ap (entries_of (part b at (128 * (n + suc m)))) all ∙ entries_of-more (part b at (128 * (n + suc m))) (n + m))
