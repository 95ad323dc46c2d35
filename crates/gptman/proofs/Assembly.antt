-- Records assembled from their parts.
use Rattle.std.proofs.Common.{take-add, ◌≡◌, ℕ, ◌+◌, ◌-◌, List, [], ◌++◌, length, get_or, take, drop, arith, refl, sym, ap, ◌∙◌, map}
use Rattle.std.specs.List.{range_with_len}
use Rattle.std.specs.Prelude.{slice_range}
use mathlib.Core.Path.{ap₂}
use Rattle.std.proofs.lemmas.List.{take_at, drop_at, drop-drop, append_assoc, append-nil, length-append}
use Rattle.std.proofs.lemmas.List.FromFn.{fill_by_all}

-- The bytes begin with front, which ends at this offset; the rest follows.
pub record Written (bytes front rest : List ℕ) (at : ℕ) : Type 0 where
  pub are : bytes ≡ front ++ rest
  pub long : length front ≡ at

-- Nothing is written yet.
pub written_none : (bytes : List ℕ) → Written bytes [] bytes 0
written_none bytes = record { are = refl; long = refl }

-- One more part is written.
pub written_more : {old front rest : List ℕ} {at : ℕ} → Written old front rest at → (part : List ℕ) (n : ℕ) → length part ≡ n → {new : List ℕ}
    → new ≡ take at old ++ (part ++ drop (at + length part) old) → Written new (front ++ part) (drop n rest) (at + n)
written_more {old} {front} {rest} {at} w part n size {new} put =
    let kept : take at old ≡ front = ap (take at) w.are ∙ take_at front rest at w.long in
    let after : drop (at + length part) old ≡ drop n rest =
    ap (λ (k : ℕ). drop (at + k) old) size ∙ sym (drop-drop n at old) ∙ ap (λ (xs : List ℕ). drop n (drop at xs)) w.are
    ∙ ap (drop n) (drop_at front rest at w.long) in
    record {
      are = put ∙ rw (kept, after) (sym (append_assoc front part (drop n rest)));
      long = length-append front part ∙ rw (w.long, size) refl;
    }

-- A part stays unchanged.
pub written_kept : {bytes front rest : List ℕ} {at : ℕ} → Written bytes front rest at → (part more : List ℕ) (n : ℕ) → rest ≡ part ++ more → length part ≡ n → Written bytes (front ++ part) more (at + n)
written_kept {front = front} w part more n is size = record {
  are = w.are ∙ ap (λ (xs : List ℕ). front ++ xs) is ∙ sym (append_assoc front part more);
  long = length-append front part ∙ rw (w.long, size) refl;
}

-- All parts are written.
pub written_all : {bytes front rest : List ℕ} {at : ℕ} → Written bytes front rest at → rest ≡ [] → bytes ≡ front
written_all {bytes} {front} w end = w.are ∙ ap (λ (xs : List ℕ). front ++ xs) end ∙ append-nil front

-- The elements of a list by index.
abbrev pub elements : List ℕ → ℕ → ℕ
elements xs k = get_or xs k 0

-- A list of n elements, one by one.
pub cells : (xs : List ℕ) (n : ℕ) → length xs ≡ n → xs ≡ map (elements xs) (range_with_len 0 n)
cells xs n len = fill_by_all (elements xs) xs n 0 len (λ k h. refl)

-- The first bytes, and one more part.
pub taken_more : (b : List ℕ) (at n : ℕ) {front part : List ℕ} → front ≡ take at b → part ≡ slice_range b at (at + n) → front ++ part ≡ take (at + n) b
taken_more b at n {front} {part} f p =
    let size : at + n - at ≡ n = omega arith in
    ap₂ (λ (x y : List ℕ). x ++ y) f (p ∙ ap (λ (k : ℕ). take k (drop at b)) size) ∙ sym (take-add at n b)
