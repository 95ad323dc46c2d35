-- The bytes of consecutive entries, and of blocks of them.
use Rattle.std.proofs.Common.{take-add, ◌≡◌, ℕ, ◌+◌, ◌-◌, ◌*◌, ◌<◌, ◌≤◌, List, [], ◌∷◌, ◌++◌, length, get_or, take, drop, arith, sym, ap, ◌∙◌}
use Rattle.std.proofs.lemmas.List.{append_assoc, append-nil, length-append, length-drop, length-take-le, take_at, take_more}
use Rattle.std.proofs.lemmas.List.Concat.{flat_map-append}
use Rattle.gptman.specs.Coding.{entry_bytes, array_bytes}
use Rattle.gptman.specs.declared.codec.entry.GPTPartitionEntry.{GPTPartitionEntry}

-- The bytes of one more entry, after those of the previous entries.
pub entry_put : (old new : List ℕ) (es : List GPTPartitionEntry) (k : ℕ) (e : GPTPartitionEntry) → take (128 * k) old ≡ array_bytes (take k es) → 128 * k + 128 ≤ length old → k < length es
    → e ≡ get_or es k e → length (entry_bytes e) ≡ 128 → new ≡ take (128 * k) old ++ (entry_bytes e ++ drop (128 * k + length (entry_bytes e)) old)
    → take (128 * (k + 1)) new ≡ array_bytes (take (k + 1) es)
entry_put old new es k e before room lt is size put =
    let rest : List ℕ = drop (128 * k + length (entry_bytes e)) old in
    let front : List ℕ = take (128 * k) old ++ entry_bytes e in
    let long : length front ≡ 128 * (k + 1) = omega (arith, length-append (take (128 * k) old) (entry_bytes e), length-take-le (128 * k) old (omega arith)) in
    let more : take (k + 1) es ≡ take k es ++ e ∷ [] = take_more es k e lt ∙ ap (λ (x : GPTPartitionEntry). take k es ++ x ∷ []) (sym is) in
    ap (take (128 * (k + 1))) (put ∙ sym (append_assoc (take (128 * k) old) (entry_bytes e) rest))
    ∙ take_at front rest (128 * (k + 1)) long
    ∙ ap (λ (xs : List ℕ). xs ++ entry_bytes e) before
    ∙ sym (ap array_bytes more ∙ flat_map-append entry_bytes (take k es) (e ∷ [])
    ∙ ap (λ (xs : List ℕ). array_bytes (take k es) ++ xs) (append-nil (entry_bytes e)))

-- The number of entries of a block.
pub block_count : (es : List GPTPartitionEntry) (i end : ℕ) → end ≤ length es → length (take (end - i) (drop i es)) ≡ end - i
block_count es i end within = length-take-le (end - i) (drop i es) (omega (arith, length-drop i es))

-- The first entries, and a block after them.
pub entries_more : (es : List GPTPartitionEntry) (i end : ℕ) → i ≤ end → take end es ≡ take i es ++ take (end - i) (drop i es)
entries_more es i end le =
    let cut : i + (end - i) ≡ end = omega arith in
    ap (λ (n : ℕ). take n es) (sym cut) ∙ take-add i (end - i) es

-- Their bytes.
pub block_more : (es : List GPTPartitionEntry) (i end : ℕ) → i ≤ end → array_bytes (take end es) ≡ array_bytes (take i es) ++ array_bytes (take (end - i) (drop i es))
block_more es i end le = ap array_bytes (entries_more es i end le) ∙ flat_map-append entry_bytes (take i es) (take (end - i) (drop i es))
