-- The bytes of a disk that its ends have.
use Rattle.std.proofs.Common.{◌≡◌, ◌≤◌, ◌<◌, ℕ, ◌+◌, ◌-◌, List, [], ◌∷◌, ◌++◌, length, take, drop, get_or, replicate, ◌∙◌, ap, arith}
use Rattle.std.proofs.lemmas.List.{take-append-le, drop-append-le, get_or-drop, length-replicate, take_more}
use Rattle.std.proofs.Math.Seq.{drop-append-add}
use Rattle.std.proofs.Math.ListN.{length-drop}
use Rattle.gptman.specs.Bytes.{part}
use Rattle.gptman_plan.specs.Ends.{disk_bytes}

-- a part of the first of two lists
pub part_left : (xs ys : List ℕ) (at n : ℕ) → at + n ≤ length xs → part (xs ++ ys) at n ≡ part xs at n
part_left xs ys at n le =
    ap (λ (l : List ℕ). take n l) (drop-append-le at xs ys (omega (arith, le)))
    ∙ take-append-le n (drop at xs) ys (omega (arith, le, length-drop at xs))

-- a part of the second
pub part_right : (xs ys : List ℕ) (at n : ℕ) → part (xs ++ ys) (length xs + at) n ≡ part ys at n
part_right xs ys at n = ap (λ (l : List ℕ). take n l) (drop-append-add xs ys at)

-- a part with one more byte
pub part_more : (b : List ℕ) (at n : ℕ) → at + n < length b → part b at (n + 1) ≡ part b at n ++ get_or b (at + n) 0 ∷ []
part_more b at n lt =
    take_more (drop at b) n 0 (omega (arith, lt, length-drop at b))
    ∙ ap (λ (x : ℕ). part b at n ++ x ∷ []) (get_or-drop at b n 0)

module _ (head tail : List ℕ) (size : ℕ) (apart : length head + length tail ≤ size) where
  abbrev middle : List ℕ
  middle = replicate (size - (length head + length tail)) 0

  pub known_head : (at n : ℕ) → at + n ≤ length head → part (disk_bytes head tail size) at n ≡ part head at n
  known_head at n le = part_left head (middle ++ tail) at n le

  pub known_tail : (at n : ℕ) → part (disk_bytes head tail size) ((size - length tail) + at) n ≡ part tail at n
  known_tail at n =
      let where_is : (size - length tail) + at ≡ length head + (length middle + at) = omega (arith, apart, length-replicate {A = ℕ} (size - (length head + length tail)) 0) in
      ap (λ (k : ℕ). part (disk_bytes head tail size) k n) where_is
      ∙ part_right head (middle ++ tail) (length middle + at) n ∙ part_right middle tail at n
