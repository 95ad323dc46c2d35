-- The bytes between the ends of a disk, which acts in the ends leave unchanged.
use Rattle.std.proofs.Common.{◌≡◌, ◌⊎◌, inl, inr, ⊎_elim, ◌<◌, ◌≤◌, ℕ, zero, suc, ◌+◌, ◌-◌, add-zero, List, [], ◌∷◌, length, get_or, take, drop, refl, sym, ◌∙◌, ap, subst, arith}
use Rattle.std.specs.List.{fold}
use Rattle.std.proofs.lemmas.List.{take_all, get_or-take, get_or-drop, get_or_past}
use Rattle.std.proofs.lemmas.Bool.{cases_lt}
use Rattle.gptman.specs.Bytes.{part}
use Rattle.gptman.specs.Disk.{Outside, AgreesOutside, overlay}
use Rattle.gptman.specs.Ranges.{AgreesInside, Inside, IsApartFromAll}
use Rattle.gptman_plan.specs.Ends.{disk_bytes, length-disk_bytes, AreRangesKnown, HasEnds, IsDiskOf, IsKnown, zeroed}
use Rattle.gptman_plan.specs.Plan.{Act, bytes_with, pending_with, bytes_after, pending_after}
use Rattle.gptman_plan.specs.declared.ends.Ends.{Ends}
use Rattle.gptman_plan.specs.Plan.Act.{put, store}
use Rattle.gptman.proofs.Ranges.{Ranges}
use Rattle.gptman.proofs.Overlays.{outside_apart, part_same, length-overlay, overlay_below, overlay_above, overlay_inside, overlay_nothing}
use Rattle.gptman_plan.proofs.Known.{known_head, known_tail}

-- the bytes that the ends do not have
abbrev pub middle_of : ℕ → ℕ → ℕ → Ranges
middle_of first last size = (first, size - (first + last)) ∷ []

-- the disk with zeros between its ends has these ends
pub ends_zero : (head tail : List ℕ) (size : ℕ) → length head + length tail ≤ size → HasEnds (disk_bytes head tail size) head tail size
ends_zero head tail size apart = record {
  long = length-disk_bytes head tail size apart;
  at_head = known_head head tail size apart 0 (length head) (omega arith) ∙ take_all (length head) head (omega arith);
  at_tail =
      ap (λ (k : ℕ). part (disk_bytes head tail size) k (length tail)) (sym (add-zero (size - length tail)))
      ∙ known_tail head tail size apart 0 (length tail) ∙ take_all (length tail) tail (omega arith);
}

-- ---- what the ends have

module _ (b head tail : List ℕ) (size : ℕ) (ends : HasEnds b head tail size) where
  head_byte : (k : ℕ) → k < length head → get_or b k 0 ≡ get_or head k 0
  head_byte k below = sym (get_or-take (length head) b k 0 below) ∙ ap (λ (l : List ℕ). get_or l k 0) ends.at_head

  tail_inside : (k : ℕ) → size - length tail ≤ k → k - (size - length tail) < length tail → get_or b k 0 ≡ get_or tail (k - (size - length tail)) 0
  tail_inside k behind inside =
      let start : ℕ = size - length tail in
      ap (λ (i : ℕ). get_or b i 0) (omega (arith, behind))
      ∙ sym (get_or-drop start b (k - start) 0)
      ∙ sym (get_or-take (length tail) (drop start b) (k - start) 0 inside)
      ∙ ap (λ (l : List ℕ). get_or l (k - start) 0) ends.at_tail

  tail_past : (k : ℕ) → size - length tail ≤ k → length tail ≤ k - (size - length tail) → get_or b k 0 ≡ get_or tail (k - (size - length tail)) 0
  tail_past k behind past = get_or_past b k 0 (omega (arith, ends.long, behind, past)) ∙ sym (get_or_past tail (k - (size - length tail)) 0 past)

  tail_byte : (k : ℕ) → size - length tail ≤ k → get_or b k 0 ≡ get_or tail (k - (size - length tail)) 0
  tail_byte k behind = ⊎_elim (tail_inside k behind) (tail_past k behind) (cases_lt (k - (size - length tail)) (length tail))

-- two disks with the same ends agree outside the middle
pub same_ends : (b c head tail : List ℕ) (size : ℕ) → HasEnds b head tail size → HasEnds c head tail size → AgreesOutside (middle_of (length head) (length tail) size) b c
same_ends b c head tail size of_b of_c = record {
  long = of_c.long ∙ sym of_b.long;
  same = λ k out. ⊎_elim
      (λ below. head_byte c head tail size of_c k below ∙ sym (head_byte b head tail size of_b k below))
      (λ above. let behind : size - length tail ≤ k = omega (arith, above) in
      tail_byte c head tail size of_c k behind ∙ sym (tail_byte b head tail size of_b k behind))
      out.0;
}

-- a known range has no byte of the middle
apart_middle : (first last size : ℕ) (r : ℕ × ℕ) → IsKnown first last size r → IsApartFromAll r (middle_of first last size)
apart_middle first last size r (inl before) = (inr (inr (inl before)), tt)
apart_middle first last size r (inr (inr met)) = (inr (inl (omega (arith, met.0))), tt)
apart_middle first last size r (inr (inl behind)) = ⊎_elim
    (λ crossed. (inr (inl (omega (arith, crossed))), tt))
    (λ apart. (inr (inr (inr (omega (arith, apart, behind.0)))), tt))
    (cases_lt size (first + last))

-- its bytes are the same on both disks,
pub agree_in_ends : (b c head tail : List ℕ) (size at n : ℕ) → HasEnds b head tail size → HasEnds c head tail size → IsKnown (length head) (length tail) size (at, n) → part b at n ≡ part c at n
agree_in_ends b c head tail size at n of_b of_c known = part_same (middle_of (length head) (length tail) size) c b at n
    (same_ends c b head tail size of_c of_b)
    (apart_middle (length head) (length tail) size (at, n) known)

-- a byte of known ranges is outside the middle
outside_middle : (first last size : ℕ) (rs : Ranges) (k : ℕ) → AreRangesKnown first last size rs → Inside rs k → Outside (middle_of first last size) k
outside_middle first last size [] k known inside = elim inside [ ]
outside_middle first last size (r ∷ rs) k known (inl here) = outside_apart r (middle_of first last size) k (apart_middle first last size r known.0) here.0 here.1
outside_middle first last size (r ∷ rs) k known (inr later) = outside_middle first last size rs k known.1 later

-- disks that agree outside the middle agree in known ranges
pub agrees_known : (first last size : ℕ) (rs : Ranges) (a b : List ℕ) → AreRangesKnown first last size rs → AgreesOutside (middle_of first last size) a b → AgreesInside rs a b
agrees_known first last size rs a b known agrees = record { long = agrees.long; same = λ k inside. agrees.same k (outside_middle first last size rs k known inside) }

-- ---- the effect of acts in the ends

-- the bytes of the act, if any, are within one of the ends of a disk of size bytes, which have `first` and `last` bytes
abbrev pub IsActKnown : ℕ → ℕ → ℕ → Act → Type 0
IsActKnown first last size (put at []) = Unit {0}
IsActKnown first last size (put at (x ∷ bytes)) = IsKnown first last size (at, length (x ∷ bytes))
IsActKnown first last size store = Unit {0}

-- so are those of each act
abbrev pub AreKnown : ℕ → ℕ → ℕ → List Act → Type 0
AreKnown first last size [] = Unit {0}
AreKnown first last size (act ∷ acts) = IsActKnown first last size act × AreKnown first last size acts

-- two lists, overwritten with the same bytes
overlay_both : (rs : Ranges) (a b : List ℕ) (at : ℕ) (bytes : List ℕ) → at + length bytes ≤ length a → AgreesOutside rs a b → AgreesOutside rs (overlay a at bytes) (overlay b at bytes)
overlay_both rs a b at bytes fits agrees = record {
  long = length-overlay b at bytes fits_b ∙ agrees.long ∙ sym (length-overlay a at bytes fits);
  same = λ k out. ⊎_elim
      (λ below. overlay_below b at bytes fits_b k below ∙ agrees.same k out ∙ sym (overlay_below a at bytes fits k below))
      (λ low. ⊎_elim
      (λ high. overlay_inside b at bytes fits_b k low high ∙ sym (overlay_inside a at bytes fits k low high))
      (λ above. overlay_above b at bytes fits_b k above ∙ agrees.same k out ∙ sym (overlay_above a at bytes fits k above))
      (cases_lt k (at + length bytes)))
      (cases_lt k at);
}
  where
    fits_b : at + length bytes ≤ length b
    fits_b = omega (arith, fits, agrees.long)

module _ (first last size : ℕ) (apart : first + last ≤ size) where
  pub fits_known : (r : ℕ × ℕ) → IsKnown first last size r → r.0 + r.1 ≤ size
  fits_known r (inl before) = omega (arith, before, apart)
  fits_known r (inr (inl behind)) = behind.1
  fits_known r (inr (inr met)) = met.1

  length-step : (a : List ℕ) (e : Act) → length a ≡ size → IsActKnown first last size e → length (bytes_with a e) ≡ size
  length-step a (put at []) long known = ap (λ (l : List ℕ). length l) (overlay_nothing a at) ∙ long
  length-step a (put at (x ∷ bytes)) long known = length-overlay a at (x ∷ bytes) (omega (arith, long, fits_known (at, length (x ∷ bytes)) known)) ∙ long
  length-step a store long known = long

  pub length-view : (a : List ℕ) (acts : List Act) → length a ≡ size → AreKnown first last size acts → length (bytes_after a acts) ≡ size
  length-view a [] long known = long
  length-view a (e ∷ acts) long known = length-view (bytes_with a e) acts (length-step a e long known.0) known.1

  step_both : (rs : Ranges) (a b : List ℕ) (e : Act) → length a ≡ size → IsActKnown first last size e → AgreesOutside rs a b → AgreesOutside rs (bytes_with a e) (bytes_with b e)
  step_both rs a b (put at []) long known agrees =
      subst (λ (l : List ℕ). AgreesOutside rs l (overlay b at [])) (sym (overlay_nothing a at)) (subst (λ (l : List ℕ). AgreesOutside rs a l) (sym (overlay_nothing b at)) agrees)
  step_both rs a b (put at (x ∷ bytes)) long known agrees = overlay_both rs a b at (x ∷ bytes) (omega (arith, long, fits_known (at, length (x ∷ bytes)) known)) agrees
  step_both rs a b store long known agrees = agrees

  -- disks that agreed still do
  pub view_both : (rs : Ranges) (a b : List ℕ) (acts : List Act) → length a ≡ size → AreKnown first last size acts → AgreesOutside rs a b → AgreesOutside rs (bytes_after a acts) (bytes_after b acts)
  view_both rs a b [] long known agrees = agrees
  view_both rs a b (e ∷ acts) long known agrees = view_both rs (bytes_with a e) (bytes_with b e) acts (length-step a e long known.0) known.1 (step_both rs a b e long known.0 agrees)

  pub known_take : (n : ℕ) (acts : List Act) → AreKnown first last size acts → AreKnown first last size (take n acts)
  known_take zero acts known = tt
  known_take (suc n) [] known = tt
  known_take (suc n) (e ∷ acts) known = (known.0, known_take n acts known.1)

  -- a byte is outside the middle or in it
  pub cases_middle : (k : ℕ) → Outside (middle_of first last size) k ⊎ ((first ≤ k) × (k < first + (size - (first + last))))
  cases_middle k = ⊎_elim
      (λ below. inl (inl below, tt))
      (λ low. ⊎_elim (λ high. inr (low, high)) (λ above. inl (inr above, tt)) (cases_lt k (first + (size - (first + last)))))
      (cases_lt k first)

  module _ (k : ℕ) (low : first ≤ k) (high : k < first + (size - (first + last))) where
    pub clear : (r : ℕ × ℕ) → IsKnown first last size r → (k < r.0) ⊎ (r.0 + r.1 ≤ k)
    clear r (inl before) = inr (omega (arith, before, low))
    clear r (inr (inl behind)) = inl (omega (arith, behind.0, high, apart))
    clear r (inr (inr met)) = absurd (omega (arith, met.0, low, high))

    still_step : (a : List ℕ) (e : Act) → length a ≡ size → IsActKnown first last size e → get_or (bytes_with a e) k 0 ≡ get_or a k 0
    still_step a (put at []) long known = ap (λ (l : List ℕ). get_or l k 0) (overlay_nothing a at)
    still_step a (put at (x ∷ bytes)) long known =
        let fits : at + length (x ∷ bytes) ≤ length a = omega (arith, long, fits_known (at, length (x ∷ bytes)) known) in
        ⊎_elim (overlay_below a at (x ∷ bytes) fits k) (overlay_above a at (x ∷ bytes) fits k) (clear (at, length (x ∷ bytes)) known)
    still_step a store long known = refl

    -- a byte of the middle is unchanged
    pub still_middle : (a : List ℕ) (acts : List Act) → length a ≡ size → AreKnown first last size acts → get_or (bytes_after a acts) k 0 ≡ get_or a k 0
    still_middle a [] long known = refl
    still_middle a (e ∷ acts) long known = still_middle (bytes_with a e) acts (length-step a e long known.0) known.1 ∙ still_step a e long known.0

    clear_step : (pending : Ranges) (e : Act) → IsActKnown first last size e → Outside pending k → Outside (pending_with pending e) k
    clear_step pending (put at []) known out = (⊎_elim (λ below. inl below) (λ above. inr (omega (arith, above))) (cases_lt k at), out)
    clear_step pending (put at (x ∷ bytes)) known out = (clear (at, length (x ∷ bytes)) known, out)
    clear_step pending store known out = tt

    clear_fold : (pending : Ranges) (acts : List Act) → AreKnown first last size acts → Outside pending k → Outside (fold pending_with pending acts) k
    clear_fold pending [] known out = out
    clear_fold pending (e ∷ acts) known out = clear_fold (pending_with pending e) acts known.1 (clear_step pending e known.0 out)

    -- and is not pending
    pub clear_pending : (acts : List Act) → AreKnown first last size acts → Outside (pending_after acts) k
    clear_pending acts known = clear_fold [] acts known tt

-- ---- the ends of a disk

pub zero_ends : (e : Ends) → IsDiskOf e (zeroed e)
zero_ends e = ends_zero e.head.now e.tail.now e.size e.apart

-- A disk with the bytes and the length from which the ends were made has these ends.
pub has_made : (e : Ends) (head tail : List ℕ) (size : ℕ) → (e.head.now ≡ head) × (e.tail.now ≡ tail) × (e.size ≡ size) → (b : List ℕ) → HasEnds b head tail size → IsDiskOf e b
has_made e head tail size made b has = subst (λ (p : List ℕ × (List ℕ × ℕ)). HasEnds b p.0 p.1.0 p.1.1) (λ i. (sym made.0 i, (sym made.1 i, sym made.2 i))) has
