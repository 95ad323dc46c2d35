-- Pieces of bytes that overwrite a list one by one.
use Rattle.std.proofs.Common.{◌≡◌, ◌⊎◌, inl, inr, ◌≤◌, ℕ, ◌+◌, List, [], ◌∷◌, length, refl, sym, ◌∙◌, subst, arith}
use Rattle.gptman_disk.specs.Disk.{AgreesOutside, overlay}
use Rattle.gptman_disk.specs.Bytes.{part}
use Rattle.gptman_disk.specs.Ranges.{AreApart, AreInside}
use Rattle.gptman_disk.proofs.Ranges.{Ranges, agrees_self, agrees_then, agrees_wider, within_self, within_first, within_later}
use Rattle.gptman_disk.proofs.Overlays.{agrees_overlay, overlay_nothing, part-overlay, part_same}

-- The list overwritten with the pieces in order. A piece is a start and its bytes.
abbrev pub overlaid : List ℕ → List (ℕ × List ℕ) → List ℕ
overlaid old [] = old
overlaid old (piece ∷ pieces) = overlaid (overlay old piece.0 piece.1) pieces

-- The ranges of the pieces.
abbrev pub ranges_of : List (ℕ × List ℕ) → Ranges
ranges_of [] = []
ranges_of (piece ∷ pieces) = (piece.0, length piece.1) ∷ ranges_of pieces

-- Each piece is in the list.
abbrev pub AllAreThere : List (ℕ × List ℕ) → List ℕ → Type 0
AllAreThere [] b = Unit {0}
AllAreThere (piece ∷ pieces) b = (part b piece.0 (length piece.1) ≡ piece.1) × AllAreThere pieces b

-- One piece, empty or within the list.
piece_agrees : (old : List ℕ) (at : ℕ) (bytes : List ℕ) → (length bytes ≡ 0) ⊎ (at + length bytes ≤ length old) → AgreesOutside ((at, length bytes) ∷ []) old (overlay old at bytes)
piece_agrees old at bytes (inr fits) = agrees_overlay old at bytes fits
piece_agrees old at [] (inl none) = subst (AgreesOutside ((at, 0) ∷ []) old) (sym (overlay_nothing old at)) (agrees_self ((at, 0) ∷ []) old)
piece_agrees old at (x ∷ bytes) (inl none) = absurd (omega arith)

piece_is_there : (old : List ℕ) (at : ℕ) (bytes : List ℕ) → (length bytes ≡ 0) ⊎ (at + length bytes ≤ length old) → part (overlay old at bytes) at (length bytes) ≡ bytes
piece_is_there old at bytes (inr fits) = part-overlay old at bytes fits
piece_is_there old at [] (inl none) = refl
piece_is_there old at (x ∷ bytes) (inl none) = absurd (omega arith)

rest_inside : (old : List ℕ) (at : ℕ) (bytes : List ℕ) (rs : Ranges) → AreInside ((at, length bytes) ∷ rs) (length old) → AreInside rs (length (overlay old at bytes))
rest_inside old at bytes rs inside = subst (AreInside rs) (sym (piece_agrees old at bytes inside.0).long) inside.1

-- Bytes outside the pieces are unchanged.
pub overlaid_agrees : (old : List ℕ) (pieces : List (ℕ × List ℕ)) → AreInside (ranges_of pieces) (length old) → AgreesOutside (ranges_of pieces) old (overlaid old pieces)
overlaid_agrees old [] inside = agrees_self [] old
overlaid_agrees old (piece ∷ pieces) inside =
    agrees_then (agrees_wider (within_first refl) (piece_agrees old piece.0 piece.1 inside.0))
    (agrees_wider (within_later (within_self (ranges_of pieces))) (overlaid_agrees (overlay old piece.0 piece.1) pieces (rest_inside old piece.0 piece.1 (ranges_of pieces) inside)))

-- Disjoint pieces are all in the list at the end.
pub overlaid_are_there : (old : List ℕ) (pieces : List (ℕ × List ℕ)) → AreApart (ranges_of pieces) → AreInside (ranges_of pieces) (length old) → AllAreThere pieces (overlaid old pieces)
overlaid_are_there old [] apart inside = tt
overlaid_are_there old (piece ∷ pieces) apart inside =
    let first : List ℕ = overlay old piece.0 piece.1 in
    let left : AreInside (ranges_of pieces) (length first) = rest_inside old piece.0 piece.1 (ranges_of pieces) inside in (
      part_same (ranges_of pieces) first (overlaid first pieces) piece.0 (length piece.1) (overlaid_agrees first pieces left) apart.0
          ∙ piece_is_there old piece.0 piece.1 inside.0,
      overlaid_are_there first pieces apart.1 left,
    )
