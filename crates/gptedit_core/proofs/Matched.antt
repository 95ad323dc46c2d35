-- The passes of a search for entries, step by step.
use Rattle.std.proofs.Common.{◌≡◌, ◌<◌, ◌≤◌, ◌⊎◌, inl, inr, ℕ, ◌+◌, List, [], ◌∷◌, ◌++◌, length, get_or, take, drop, refl, sym, ap, ◌∙◌, arith}
use Rattle.std.specs.Prelude.{Option, Some, None, Bool, true, false, if◌then◌else◌, count_by}
use Rattle.std.specs.List.{enumerate_from, find}
use Rattle.std.specs.Option.{is_some}
use Rattle.std.proofs.lemmas.List.{append_assoc, append-nil, drop_all, drop_more, drop-set-lt, get_or_default, set-get_or, take_more_set, take_all}
use Rattle.std.proofs.Math.ListN.{set}
use Rattle.std.proofs.lemmas.List.Sums.{sum_by-cons}
use Rattle.gptman.specs.declared.codec.entry.GPTPartitionEntry.{GPTPartitionEntry}
use Rattle.gptman.specs.declared.table.GPT.{GPT}
use Rattle.gptedit_core.specs.Selecting.{asked_for}
use Rattle.gptedit_core.specs.Matching.{may_mean, may_seek, numbered, passed, put_first, sought, taken}
use Rattle.gptedit_core.specs.declared.asked.Asked.{Asked}
use Rattle.gptedit_core.specs.declared.matching.EntryMatch.{EntryMatch}
use Rattle.gptedit_core.specs.declared.matching.MatchedBy.{MatchedBy}

-- ---- a pass

abbrev pub Found : Type 0
Found = List (Option EntryMatch) × List ℕ

abbrev pub Sought : Type 0
Sought = Option EntryMatch × List ℕ

abbrev pub onto : List (Option EntryMatch) → Found → Found
onto done rest = (done ++ rest.0, rest.1)

-- What a pass results in, after i requests.
abbrev pub progress : GPT → MatchedBy → List Asked → List Asked → ℕ → List (Option EntryMatch) → List ℕ → Found
progress g by all asked i found free = onto (take i found) (passed g by all (drop i asked) (drop i found) free)

onto_more : (done : List (Option EntryMatch)) (one : Option EntryMatch) (rest : Found) → onto done (put_first one rest) ≡ onto (done ++ one ∷ []) rest
onto_more done one rest = ap (λ (xs : List (Option EntryMatch)). let both : Found = (xs, rest.1) in both) (sym (append_assoc done (one ∷ []) rest.0))

pub seek_step : (g : GPT) (by : MatchedBy) (all asked : List Asked) (i : ℕ) (found : List (Option EntryMatch)) (free : List ℕ) (a : Asked) (f : Option EntryMatch)
    → i < length asked → i < length found → a ≡ get_or asked i a → f ≡ get_or found i f
    → progress g by all asked i found free ≡ progress g by all asked (i + 1) (set found i (sought g by all a f free).0) (sought g by all a f free).1
seek_step g by all asked i found free a f in_asked in_found is_a is_f =
    let one = sought g by all a f free in
    let left : drop i asked ≡ a ∷ drop (i + 1) asked = drop_more asked i a in_asked ∙ ap (λ x. x ∷ drop (i + 1) asked) (sym is_a) in
    let rest : drop i found ≡ f ∷ drop (i + 1) found = drop_more found i f in_found ∙ ap (λ x. x ∷ drop (i + 1) found) (sym is_f) in
    let same : drop (i + 1) (set found i one.0) ≡ drop (i + 1) found = drop-set-lt (i + 1) found i one.0 (omega arith) in
    let took : take (i + 1) (set found i one.0) ≡ take i found ++ one.0 ∷ [] = take_more_set found i one.0 in_found in
    ap (λ (xs : List Asked). onto (take i found) (passed g by all xs (drop i found) free)) left
    ∙ ap (λ (ys : List (Option EntryMatch)). onto (take i found) (passed g by all (a ∷ drop (i + 1) asked) ys free)) rest
    ∙ onto_more (take i found) one.0 (passed g by all (drop (i + 1) asked) (drop (i + 1) found) one.1)
    ∙ ap (λ (xs : List (Option EntryMatch)). onto xs (passed g by all (drop (i + 1) asked) (drop (i + 1) found) one.1)) (sym took)
    ∙ ap (λ (ys : List (Option EntryMatch)). onto (take (i + 1) (set found i one.0)) (passed g by all (drop (i + 1) asked) ys one.1)) (sym same)

-- A request without an entry that seeks one.
sought_taken : (g : GPT) (by : MatchedBy) (all : List Asked) (a : Asked) (f : Option EntryMatch) (free : List ℕ) → is_some f ≡ false → may_seek g by all a ≡ true
    → sought g by all a f free ≡ taken by free (find (may_mean g by a) free)
sought_taken g by all a None free none seeks =
    ap (λ (b : Bool). let both : Sought = if b then taken by free (find (may_mean g by a) free) else (None, free) in both) seeks
sought_taken g by all a (Some m) free none seeks = absurd (cc)

-- A request that has an entry, or does not seek one.
sought_kept : (g : GPT) (by : MatchedBy) (all : List Asked) (a : Asked) (f : Option EntryMatch) (free : List ℕ) → (is_some f ≡ true) ⊎ (may_seek g by all a ≡ false)
    → sought g by all a f free ≡ (f, free)
sought_kept g by all a None free (inl some) = absurd (cc)
sought_kept g by all a None free (inr idle) =
    ap (λ (b : Bool). let both : Sought = if b then taken by free (find (may_mean g by a) free) else (None, free) in both) idle
sought_kept g by all a (Some m) free kept = refl

pub seek_taken : (g : GPT) (by : MatchedBy) (all asked : List Asked) (i : ℕ) (found : List (Option EntryMatch)) (free : List ℕ) (a : Asked)
    → i < length asked → i < length found → a ≡ get_or asked i a → is_some (get_or found i None) ≡ false → may_seek g by all a ≡ true
    → progress g by all asked i found free
    ≡ progress g by all asked (i + 1) (set found i (taken by free (find (may_mean g by a) free)).0) (taken by free (find (may_mean g by a) free)).1
seek_taken g by all asked i found free a in_asked in_found is_a none seeks =
    let f = get_or found i None in
    seek_step g by all asked i found free a f in_asked in_found is_a (get_or_default found i None f in_found)
    ∙ ap (λ (one : Sought). progress g by all asked (i + 1) (set found i one.0) one.1) (sought_taken g by all a f free none seeks)

pub seek_kept : (g : GPT) (by : MatchedBy) (all asked : List Asked) (i : ℕ) (found : List (Option EntryMatch)) (free : List ℕ) (a : Asked)
    → i < length asked → i < length found → a ≡ get_or asked i a → (is_some (get_or found i None) ≡ true) ⊎ (may_seek g by all a ≡ false)
    → progress g by all asked i found free ≡ progress g by all asked (i + 1) found free
seek_kept g by all asked i found free a in_asked in_found is_a kept =
    let f = get_or found i None in
    seek_step g by all asked i found free a f in_asked in_found is_a (get_or_default found i None f in_found)
    ∙ ap (λ (one : Sought). progress g by all asked (i + 1) (set found i one.0) one.1) (sought_kept g by all a f free kept)
    ∙ ap (λ (xs : List (Option EntryMatch)). progress g by all asked (i + 1) xs free) (set-get_or found i None)

pub seek_end : (g : GPT) (by : MatchedBy) (all asked : List Asked) (i : ℕ) (found : List (Option EntryMatch)) (free : List ℕ)
    → length asked ≤ i → length found ≡ length asked → progress g by all asked i found free ≡ (found, free)
seek_end g by all asked i found free end same =
    ap (λ (xs : List Asked). onto (take i found) (passed g by all xs (drop i found) free)) (drop_all i asked end)
    ∙ ap (λ (xs : List (Option EntryMatch)). let both : Found = (xs, free) in both) (append-nil (take i found) ∙ take_all i found (omega arith))

-- ---- the numbers

abbrev pub numbering : List Asked → List EntryMatch → ℕ → List Asked
numbering asked ms i = take i asked ++ numbered (drop i asked) (drop i ms)

pub number_step : (asked : List Asked) (ms : List EntryMatch) (i : ℕ) (a : Asked) (m : EntryMatch) → i < length asked → i < length ms
    → a ≡ get_or asked i a → m ≡ get_or ms i m → numbering asked ms i ≡ numbering (set asked i (asked_for m.number a)) ms (i + 1)
number_step asked ms i a m in_asked in_ms is_a is_m =
    let one = asked_for m.number a in
    let left : drop i asked ≡ a ∷ drop (i + 1) asked = drop_more asked i a in_asked ∙ ap (λ x. x ∷ drop (i + 1) asked) (sym is_a) in
    let rest : drop i ms ≡ m ∷ drop (i + 1) ms = drop_more ms i m in_ms ∙ ap (λ x. x ∷ drop (i + 1) ms) (sym is_m) in
    let same : drop (i + 1) (set asked i one) ≡ drop (i + 1) asked = drop-set-lt (i + 1) asked i one (omega arith) in
    let took : take (i + 1) (set asked i one) ≡ take i asked ++ one ∷ [] = take_more_set asked i one in_asked in
    ap (λ (xs : List Asked). take i asked ++ numbered xs (drop i ms)) left
    ∙ ap (λ (ys : List EntryMatch). take i asked ++ numbered (a ∷ drop (i + 1) asked) ys) rest
    ∙ sym (append_assoc (take i asked) (one ∷ []) (numbered (drop (i + 1) asked) (drop (i + 1) ms)))
    ∙ ap (λ (xs : List Asked). xs ++ numbered (drop (i + 1) asked) (drop (i + 1) ms)) (sym took)
    ∙ ap (λ (ys : List Asked). take (i + 1) (set asked i one) ++ numbered ys (drop (i + 1) ms)) (sym same)

pub number_end : (asked : List Asked) (ms : List EntryMatch) (i : ℕ) → length asked ≤ i → numbering asked ms i ≡ asked
number_end asked ms i end =
    ap (λ (xs : List Asked). take i asked ++ numbered xs (drop i ms)) (drop_all i asked end)
    ∙ append-nil (take i asked) ∙ take_all i asked end

-- ---- counts

-- The number of entries that pass the test, after n others.
abbrev pub counted : (GPTPartitionEntry → Bool) → ℕ → List (ℕ × GPTPartitionEntry) → ℕ
counted test n [] = n
counted test n (e ∷ es) = if test e.1 then counted test (n + 1) es else counted test n es

one_more : (b : Bool) (n c : ℕ) → (if b then n + 1 + c else n + c) ≡ n + ((if b then 1 else 0) + c)
one_more true n c = omega arith
one_more false n c = omega arith

pub counted_all : (test : GPTPartitionEntry → Bool) (n k : ℕ) (es : List GPTPartitionEntry) → counted test n (enumerate_from k es) ≡ n + count_by test es
counted_all test n k [] = omega arith
counted_all test n k (e ∷ es) =
    ap (λ (c : ℕ). if test e then c else counted test n (enumerate_from (k + 1) es)) (counted_all test (n + 1) (k + 1) es)
    ∙ ap (λ (c : ℕ). if test e then n + 1 + count_by test es else c) (counted_all test n (k + 1) es)
    ∙ one_more (test e) n (count_by test es)
    ∙ ap (λ (c : ℕ). n + c) (sym (sum_by-cons (λ (x : GPTPartitionEntry). if test x then 1 else 0) e es))
