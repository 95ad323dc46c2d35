-- Used entries are disjoint exactly if each of their ranges, by ascending start, ends before the next begins.
use Rattle.std.proofs.Common.{◌≡◌, ℕ, ◌+◌, ◌<◌, ◌≤◌, List, length, get_or, Some, ap, inl, inr, arith}
use Rattle.std.specs.List.{All, AllPairs, filter_map}
use Rattle.std.specs.List.Sorted.{IsPermutation, IsNonDecreasingBy}
use Rattle.std.proofs.lemmas.Bool.{cases_lt}
use Rattle.std.proofs.lemmas.List.{get_or_default}
use Rattle.std.proofs.lemmas.List.Sorted.{IsPermutation-sym}
use Rattle.gptman.specs.Entry.{covered_range}
use Rattle.gptman.specs.Valid.{AreDisjoint, EndsBefore}
use Rattle.gptman.specs.declared.codec.entry.GPTPartitionEntry.{GPTPartitionEntry}
use Rattle.gptman.proofs.Covered.{covers_nothing, range_of}
use Rattle.gptman.proofs.Pairs.{AllPairs-filter_map, AllPairs-from_filter_map, AllPairs-permutation}

-- No sector is in both ranges.
abbrev pub Separate : ℕ × ℕ → ℕ × ℕ → Type 0
Separate r t = (x : ℕ) → r.0 ≤ x → x ≤ r.1 → t.0 ≤ x → x ≤ t.1 → ⊥

separate_ranges : (e f : GPTPartitionEntry) (r t : ℕ × ℕ) → covered_range e ≡ Some r → covered_range f ≡ Some t → AreDisjoint e f → Separate r t
separate_ranges e f r t er ft disjoint x a b c d = disjoint x ((range_of e r er).covered x a b) ((range_of f t ft).covered x c d)

disjoint_entries : (e f : GPTPartitionEntry) (r t : ℕ × ℕ) → covered_range e ≡ Some r → covered_range f ≡ Some t → Separate r t → AreDisjoint e f
disjoint_entries e f r t er ft separate x first second =
    let here = (range_of e r er).within x first in
    let there = (range_of f t ft).within x second in
    separate x here.0 here.1 there.0 there.1

-- The ranges of disjoint entries are separate in any order.
pub ranges_separate : (es : List GPTPartitionEntry) (rs : List (ℕ × ℕ)) → IsPermutation (filter_map covered_range es) rs → AllPairs AreDisjoint es → AllPairs Separate rs
ranges_separate es rs p disjoint =
    AllPairs-permutation Separate (λ r t s x a b c d. s x c d a b) (filter_map covered_range es) rs p
    (AllPairs-filter_map covered_range AreDisjoint Separate separate_ranges es disjoint)

pub entries_disjoint : (es : List GPTPartitionEntry) (rs : List (ℕ × ℕ)) → IsPermutation (filter_map covered_range es) rs → AllPairs Separate rs → AllPairs AreDisjoint es
entries_disjoint es rs p separate =
    AllPairs-from_filter_map covered_range AreDisjoint Separate disjoint_entries (λ e f none x c d. covers_nothing e none x c) (λ e f none x c d. covers_nothing f none x d) es
    (AllPairs-permutation Separate (λ r t s x a b c d. s x c d a b) rs (filter_map covered_range es) (IsPermutation-sym (filter_map covered_range es) rs p) separate)

-- Separate ranges, by ascending start, end before later ones begin.
pub end_before : (rs : List (ℕ × ℕ)) → IsNonDecreasingBy (λ r. r.0) rs → All (λ r. r.0 ≤ r.1) rs → AllPairs Separate rs → AllPairs EndsBefore rs
end_before rs sorted ordered separate i j d less h = elim (cases_lt (get_or rs i d).1 (get_or rs j d).0) [
  | inl before ↦ before
  | inr over ↦ absurd (separate i j d less h (get_or rs j d).0 (sorted i j d (omega arith) h) over (omega arith) (ordered j d h))
]

pub are_separate : (rs : List (ℕ × ℕ)) → AllPairs EndsBefore rs → AllPairs Separate rs
are_separate rs before i j d less h x a b c e = let f = before i j d less h in omega arith

-- From neighbours to all pairs.
pub all_end_before : (rs : List (ℕ × ℕ)) → IsNonDecreasingBy (λ r. r.0) rs → ((k : ℕ) → k + 1 < length rs → EndsBefore (get_or rs k (0, 0)) (get_or rs (k + 1) (0, 0))) → AllPairs EndsBefore rs
all_end_before rs sorted next i j d less h =
    let step = next i (omega arith) in
    let up = sorted (i + 1) j d (omega arith) h in
    let here : (get_or rs i d).1 ≡ (get_or rs i (0, 0)).1 = ap (λ (r : ℕ × ℕ). r.1) (get_or_default rs i d (0, 0) (omega arith)) in
    let there : (get_or rs (i + 1) d).0 ≡ (get_or rs (i + 1) (0, 0)).0 = ap (λ (r : ℕ × ℕ). r.0) (get_or_default rs (i + 1) d (0, 0) (omega arith)) in
    omega arith
