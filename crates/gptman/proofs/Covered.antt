-- The ranges of sectors that used entries cover.
use Rattle.std.proofs.Common.{◌≡◌, ◌≤◌, ℕ, Bool, true, false, ◌&&◌, nat_le, List, [], ◌∷◌, Some, None, cond, refl, sym, ap, ◌∙◌, IsTrue, arith}
use Rattle.std.specs.List.{All, filter_map, cons_option}
use Rattle.std.specs.List.Sorted.{IsPermutation}
use Rattle.std.proofs.lemmas.Bool.{and_parts, and_from, leb-true, le-leb, cond-true}
use Rattle.std.proofs.lemmas.List.Elements.{All-nil, All-cons}
use Rattle.std.proofs.lemmas.List.Sorted.{All-permutation}
use Rattle.std.proofs.lemmas.Option.{cond_some, none-some}
use Rattle.gptman.specs.Entry.{is_used, covers, covered_range}
use Rattle.gptman.specs.declared.codec.entry.GPTPartitionEntry.{GPTPartitionEntry}

-- The entry covers the sector.
pub record IsCovered (e : GPTPartitionEntry) (x : ℕ) : Type 0 where
  pub used : IsTrue (is_used e)
  pub from : e.starting_lba ≤ x
  pub to : x ≤ e.ending_lba

pub covered_if : (e : GPTPartitionEntry) (x : ℕ) → IsTrue (covers x e) → IsCovered e x
covered_if e x h =
    let parts = and_parts (is_used e && nat_le e.starting_lba x) (nat_le x e.ending_lba) h in
    let first = and_parts (is_used e) (nat_le e.starting_lba x) parts.0 in
    record { used = first.0; from = leb-true e.starting_lba x first.1; to = leb-true x e.ending_lba parts.1 }

pub covers_if : (e : GPTPartitionEntry) (x : ℕ) → IsCovered e x → IsTrue (covers x e)
covers_if e x c =
    and_from (is_used e && nat_le e.starting_lba x) (nat_le x e.ending_lba) (and_from (is_used e) (nat_le e.starting_lba x) c.used (le-leb e.starting_lba x c.from))
    (le-leb x e.ending_lba c.to)

-- The range has exactly the sectors that the entry covers.
pub record IsRangeOf (e : GPTPartitionEntry) (r : ℕ × ℕ) : Type 0 where
  pub covered : (x : ℕ) → r.0 ≤ x → x ≤ r.1 → IsTrue (covers x e)
  pub within : (x : ℕ) → IsTrue (covers x e) → (r.0 ≤ x) × (x ≤ r.1)

pub range_of : (e : GPTPartitionEntry) (r : ℕ × ℕ) → covered_range e ≡ Some r → IsRangeOf e r
range_of e r h =
    let given = cond_some (is_used e && nat_le e.starting_lba e.ending_lba) (e.starting_lba, e.ending_lba) r h in
    let used = (and_parts (is_used e) (nat_le e.starting_lba e.ending_lba) given.0).0 in
    let start : e.starting_lba ≡ r.0 = ap (λ (r : ℕ × ℕ). r.0) given.1 in
    let end : e.ending_lba ≡ r.1 = ap (λ (r : ℕ × ℕ). r.1) given.1 in
    record {
      covered = λ x from to. covers_if e x (record { used = used; from = omega arith; to = omega arith });
      within = λ x is. let c = covered_if e x is in (omega (arith, c.from), omega (arith, c.to));
    }

-- An entry without a range covers no sector.
pub covers_nothing : (e : GPTPartitionEntry) → covered_range e ≡ None → (x : ℕ) → ¬ IsTrue (covers x e)
covers_nothing e h x covered =
    let c = covered_if e x covered in
    let from = c.from in
    let to = c.to in
    let both : (is_used e && nat_le e.starting_lba e.ending_lba) ≡ true =
    and_from (is_used e) (nat_le e.starting_lba e.ending_lba) c.used (le-leb e.starting_lba e.ending_lba (omega arith)) in
    none-some (e.starting_lba, e.ending_lba) (sym h ∙ cond-true (is_used e && nat_le e.starting_lba e.ending_lba) (Some (e.starting_lba, e.ending_lba)) None both)

one_ordered : (e : GPTPartitionEntry) (rest : List (ℕ × ℕ)) (c : Bool) → (is_used e && nat_le e.starting_lba e.ending_lba) ≡ c → All (λ r. r.0 ≤ r.1) rest
    → All (λ r. r.0 ≤ r.1) (cons_option (cond c (Some (e.starting_lba, e.ending_lba)) None) rest)
one_ordered e rest true is all =
    All-cons (λ r. r.0 ≤ r.1) (e.starting_lba, e.ending_lba) rest (leb-true e.starting_lba e.ending_lba (and_parts (is_used e) (nat_le e.starting_lba e.ending_lba) is).1) all
one_ordered e rest false is all = all

all_ordered : (es : List GPTPartitionEntry) → All (λ r. r.0 ≤ r.1) (filter_map covered_range es)
all_ordered [] = All-nil (λ r. r.0 ≤ r.1)
all_ordered (e ∷ es) = one_ordered e (filter_map covered_range es) (is_used e && nat_le e.starting_lba e.ending_lba) refl (all_ordered es)

-- No range ends before it starts.
pub ordered_ranges : (es : List GPTPartitionEntry) (rs : List (ℕ × ℕ)) → IsPermutation (filter_map covered_range es) rs → All (λ r. r.0 ≤ r.1) rs
ordered_ranges es rs p = All-permutation (λ r. r.0 ≤ r.1) _ rs p (all_ordered es)
