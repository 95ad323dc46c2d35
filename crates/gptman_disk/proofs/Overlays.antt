-- Lists of bytes that are overwritten in part, and parts of lists.
use Rattle.std.proofs.Common.{add-zero, ◌≡◌, ◌⊎◌, inl, inr, ⊎_elim, ◌<◌, ◌≤◌, min, ℕ, ◌+◌, ◌-◌, List, [], ◌∷◌, ◌++◌, length, get_or, take, drop, refl, sym, ◌∙◌, ap, arith, length-append, length-take, length-drop, append_assoc}
use Rattle.std.proofs.lemmas.List.{append-nil, take-append-drop, take_at, drop_at, get_or-take, get_or-drop, get_or_append_left, get_or-append_right, length-take-le, drop-take, take-take, drop-drop}
use Rattle.std.proofs.lemmas.Grind.{same_number_lists}
use Rattle.std.proofs.lemmas.Bool.{cases_lt}
use Rattle.gptman_disk.specs.Disk.{Outside, AgreesOutside, overlay}
use Rattle.gptman_disk.specs.Bytes.{part}
use Rattle.gptman_disk.specs.Ranges.{IsApartFromAll}
use Rattle.gptman_disk.proofs.Ranges.{Ranges}

-- a part of a part
pub part-part : (b : List ℕ) (at n k m : ℕ) → k + m ≤ n → part (part b at n) k m ≡ part b (at + k) m
part-part b at n k m h =
    let whole : n ≡ k + (n - k) = omega arith in
    ap (λ (j : ℕ). take m (drop k (take j (drop at b)))) whole ∙ ap (take m) (drop-take k (n - k) (drop at b))
    ∙ take-take m (n - k) (drop k (drop at b)) (omega arith) ∙ ap (take m) (drop-drop k at b)

-- two ranges have no byte in common
abbrev pub IsApart : ℕ × ℕ → ℕ × ℕ → Type 0
IsApart r s = (r.1 ≡ 0) ⊎ ((s.1 ≡ 0) ⊎ ((r.0 + r.1 ≤ s.0) ⊎ (s.0 + s.1 ≤ r.0)))

-- an index in a range is outside a range that is apart from it
pub one_apart : (at n start long k : ℕ) → IsApart (at, n) (start, long) → at ≤ k → k < at + n → (k < start) ⊎ (start + long ≤ k)
one_apart at n start long k (inl none) low high = absurd (omega (arith, none, low, high))
one_apart at n start long k (inr (inl none)) low high = ⊎_elim (λ below. inl below) (λ above. inr (omega (arith, none, above))) (cases_lt k start)
one_apart at n start long k (inr (inr (inl before))) low high = inl (omega (arith, before, low, high))
one_apart at n start long k (inr (inr (inr after))) low high = inr (omega (arith, after, low, high))

-- and outside all ranges that are apart from it
pub outside_apart : (r : ℕ × ℕ) (rs : Ranges) (k : ℕ) → IsApartFromAll r rs → r.0 ≤ k → k < r.0 + r.1 → Outside rs k
outside_apart r [] k apart low high = tt
outside_apart r (s ∷ rs) k apart low high = (one_apart r.0 r.1 s.0 s.1 k apart.0 low high, outside_apart r rs k apart.1 low high)

-- two parts with equal elements are equal
pub part_in : (a b : List ℕ) (at n : ℕ) → length b ≡ length a → ((k : ℕ) → at ≤ k → k < at + n → get_or b k 0 ≡ get_or a k 0) → part b at n ≡ part a at n
part_in a b at n long same =
    same_number_lists (part b at n) (part a at n)
    (length-take n (drop at b) ∙ ap (λ (m : ℕ). min n m) (length-drop at b ∙ ap (λ (m : ℕ). m - at) long ∙ sym (length-drop at a)) ∙ sym (length-take n (drop at a)))
    (λ k below.
    let small : k < n = omega (arith, length-take n (drop at b)) in
    get_or-take n (drop at b) k 0 small ∙ get_or-drop at b k 0 ∙ same (at + k) (omega arith) (omega arith)
    ∙ sym (get_or-take n (drop at a) k 0 small ∙ get_or-drop at a k 0))

-- a part is the same in two lists that agree outside ranges apart from it
pub part_same : (rs : Ranges) (a b : List ℕ) (at n : ℕ) → AgreesOutside rs a b → IsApartFromAll (at, n) rs → part b at n ≡ part a at n
part_same rs a b at n agrees apart = part_in a b at n agrees.long (λ k low high. agrees.same k (outside_apart (at, n) rs k apart low high))

module _ (old : List ℕ) (at : ℕ) (bytes : List ℕ) (fits : at + length bytes ≤ length old) where
  front : length (take at old) ≡ at
  front = length-take-le at old (omega (arith, fits))

  pub length-overlay : length (overlay old at bytes) ≡ length old
  length-overlay = simp (length-append, length-take, length-drop) (omega (arith, fits))

  front_and_bytes : length (take at old ++ bytes) ≡ at + length bytes
  front_and_bytes = simp (length-append) (omega (arith, front))

  pub overlay_below : (k : ℕ) → k < at → get_or (overlay old at bytes) k 0 ≡ get_or old k 0
  overlay_below k below =
      get_or_append_left (take at old ++ bytes) (drop (at + length bytes) old) 0 k (omega (arith, front_and_bytes, below))
      ∙ get_or_append_left (take at old) bytes 0 k (omega (arith, front, below))
      ∙ get_or-take at old k 0 below

  pub overlay_above : (k : ℕ) → at + length bytes ≤ k → get_or (overlay old at bytes) k 0 ≡ get_or old k 0
  overlay_above k above =
      get_or-append_right (take at old ++ bytes) (drop (at + length bytes) old) (at + length bytes) k 0 front_and_bytes above
      ∙ get_or-drop (at + length bytes) old (k - (at + length bytes)) 0
      ∙ ap (λ (i : ℕ). get_or old i 0) (omega (arith, above))

  pub agrees_overlay : AgreesOutside ((at, length bytes) ∷ []) old (overlay old at bytes)
  agrees_overlay = record { long = length-overlay; same = λ k o. ⊎_elim (overlay_below k) (overlay_above k) o.0 }

  pub part-overlay : part (overlay old at bytes) at (length bytes) ≡ bytes
  part-overlay =
      ap (λ (l : List ℕ). take (length bytes) (drop at l)) (append_assoc (take at old) bytes (drop (at + length bytes) old))
      ∙ ap (λ (l : List ℕ). take (length bytes) l) (drop_at (take at old) (bytes ++ drop (at + length bytes) old) at front)
      ∙ take_at bytes (drop (at + length bytes) old) (length bytes) refl

pub overlay_inside : (old : List ℕ) (at : ℕ) (bytes : List ℕ) → at + length bytes ≤ length old → (k : ℕ) → at ≤ k → k < at + length bytes → get_or (overlay old at bytes) k 0 ≡ get_or bytes (k - at) 0
overlay_inside old at bytes fits k low high =
    get_or_append_left (take at old ++ bytes) (drop (at + length bytes) old) 0 k (omega (arith, front_and_bytes old at bytes fits, high))
    ∙ get_or-append_right (take at old) bytes at k 0 (front old at bytes fits) low

-- two adjacent writes are one
pub overlay_more : (old : List ℕ) (at : ℕ) (xs ys : List ℕ) → at + length xs + length ys ≤ length old → overlay (overlay old at xs) (at + length xs) ys ≡ overlay old at (xs ++ ys)
overlay_more old at xs ys fits = same_number_lists (overlay first (at + length xs) ys) (overlay old at (xs ++ ys)) (length-overlay first (at + length xs) ys second_fits ∙ length-overlay old at xs first_fits ∙ sym (length-overlay old at (xs ++ ys) both_fit))
    (λ k below. ⊎_elim (below_at k) (λ low. ⊎_elim (in_first k low) (λ mid. ⊎_elim (in_second k mid) (λ high. above k high) (cases_lt k (at + length xs + length ys))) (cases_lt k (at + length xs))) (cases_lt k at))
  where
    first : List ℕ
    first = overlay old at xs

    first_fits : at + length xs ≤ length old
    first_fits = omega (arith, fits)

    second_fits : at + length xs + length ys ≤ length (overlay old at xs)
    second_fits = omega (arith, fits, length-overlay old at xs first_fits)

    joined : length (xs ++ ys) ≡ length xs + length ys
    joined = length-append xs ys

    both_fit : at + length (xs ++ ys) ≤ length old
    both_fit = omega (arith, fits, joined)

    below_at : (k : ℕ) → k < at → get_or (overlay (overlay old at xs) (at + length xs) ys) k 0 ≡ get_or (overlay old at (xs ++ ys)) k 0
    below_at k low = overlay_below (overlay old at xs) (at + length xs) ys second_fits k (omega (arith, low)) ∙ overlay_below old at xs first_fits k low ∙ sym (overlay_below old at (xs ++ ys) both_fit k low)

    in_first : (k : ℕ) → at ≤ k → k < at + length xs → get_or (overlay (overlay old at xs) (at + length xs) ys) k 0 ≡ get_or (overlay old at (xs ++ ys)) k 0
    in_first k low high = overlay_below (overlay old at xs) (at + length xs) ys second_fits k high ∙ overlay_inside old at xs first_fits k low high
        ∙ sym (overlay_inside old at (xs ++ ys) both_fit k low (omega (arith, high, joined)) ∙ get_or_append_left xs ys 0 (k - at) (omega (arith, low, high)))

    in_second : (k : ℕ) → at + length xs ≤ k → k < at + length xs + length ys → get_or (overlay (overlay old at xs) (at + length xs) ys) k 0 ≡ get_or (overlay old at (xs ++ ys)) k 0
    in_second k low high = overlay_inside (overlay old at xs) (at + length xs) ys second_fits k low high
        ∙ sym (overlay_inside old at (xs ++ ys) both_fit k (omega (arith, low)) (omega (arith, high, joined)) ∙ get_or-append_right xs ys (length xs) (k - at) 0 refl (omega (arith, low)) ∙ ap (λ i. get_or ys i 0) (omega (arith, low)))

    above : (k : ℕ) → at + length xs + length ys ≤ k → get_or (overlay (overlay old at xs) (at + length xs) ys) k 0 ≡ get_or (overlay old at (xs ++ ys)) k 0
    above k high = overlay_above (overlay old at xs) (at + length xs) ys second_fits k high ∙ overlay_above old at xs first_fits k (omega (arith, high)) ∙ sym (overlay_above old at (xs ++ ys) both_fit k (omega (arith, high, joined)))

-- writing no bytes changes nothing
pub overlay_nothing : (old : List ℕ) (at : ℕ) → overlay old at [] ≡ old
overlay_nothing old at =
    ap (λ (xs : List ℕ). xs ++ drop (at + 0) old) (append-nil (take at old)) ∙ ap (λ (k : ℕ). take at old ++ drop k old) (add-zero at) ∙ take-append-drop at old
