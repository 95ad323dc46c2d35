-- The protective entry of an MBR, its start and its length.
use Rattle.std.proofs.Common.{◌≡◌, ◌≤◌, ◌<◌, ⊎_elim, ◌∙◌, ◌+◌, ◌-◌, ◌*◌, ◌^◌, ℕ, zero, suc, List, [], ◌∷◌, length, get_or, drop, sym, refl, ap, arith}
use Rattle.std.specs.Prelude.{slice_range}
use Rattle.std.proofs.lemmas.Bool.{cases_lt}
use Rattle.std.proofs.lemmas.List.{get_or-drop, get_or-take, length-drop, length-take-le}
use Rattle.byteorder.specs.Endian.{little_bytes}
use Rattle.gptman.specs.Bytes.{le, part}
use Rattle.gptman.specs.Disk.{overlay, AgreesOutside, Outside}
use Rattle.gptman.proofs.Numbers.{le_of}
use Rattle.gptman.proofs.Overlays.{agrees_overlay, length-overlay, overlay_above, overlay_below, overlay_inside}
use Rattle.gptman.proofs.Ranges.{agrees_then, agrees_wider, within_left, within_right}
use Rattle.gptedit_look.specs.Protective.{number_at, HasSpan}

-- the 4 bytes of a number in a list
pub number_is : (b : List ℕ) (at n : ℕ) → n < 256 ^ 4
    → ((j : ℕ) → j < 4 → get_or b (at + j) 0 ≡ get_or (little_bytes 4 n) j 0) → number_at b at ≡ n
number_is b at n fits each =
    let here : at + 0 ≡ at = omega arith in
    let x : get_or b at 0 ≡ get_or (little_bytes 4 n) 0 0 = ap (λ (k : ℕ). get_or b k 0) (sym here) ∙ each 0 (omega arith) in
    let y = each 1 (omega arith) in
    let z = each 2 (omega arith) in
    let w = each 3 (omega arith) in
    let sum : le (little_bytes 4 n) ≡ n = le_of 4 n fits in
    omega (arith, x, y, z, w, sum)

-- the 3 bytes of an end
abbrev pub last_end : List ℕ
last_end = 0xFF ∷ 0xFF ∷ 0xFF ∷ []

-- each is 0xFF
ends_are : (j : ℕ) → j < 3 → get_or last_end j 0 ≡ 0xFF
ends_are zero lt = refl
ends_are (suc zero) lt = refl
ends_are (suc (suc zero)) lt = refl
ends_are (suc (suc (suc j))) lt = absurd (omega (arith, lt))

module _ (b : List ℕ) (i s n : ℕ) (place : i < 4) (starts : s < 256 ^ 4) (fits : n < 256 ^ 4) (room : 512 ≤ length b) where
  -- the first 512 bytes
  abbrev first : List ℕ
  first = part b 0 512

  first_long : length first ≡ 512
  first_long = length-take-le 512 (drop 0 b) (omega (arith, room, length-drop 0 b))

  first_same : (k : ℕ) → k < 512 → get_or first k 0 ≡ get_or b k 0
  first_same k lt = get_or-take 512 (drop 0 b) k 0 lt ∙ get_or-drop 0 b k 0 ∙ ap (λ (j : ℕ). get_or b j 0) (omega arith)

  -- with another end
  abbrev ended : List ℕ
  ended = overlay first (451 + 16 * i) last_end

  end_fits : (451 + 16 * i) + length last_end ≤ length first
  end_fits = omega (arith, place, first_long)

  ended_long : length ended ≡ length first
  ended_long = length-overlay first (451 + 16 * i) last_end end_fits

  -- and another start
  abbrev started : List ℕ
  started = overlay ended (454 + 16 * i) (little_bytes 4 s)

  start_fits : (454 + 16 * i) + length (little_bytes 4 s) ≤ length ended
  start_fits = omega (arith, place, first_long, ended_long)

  started_long : length started ≡ length ended
  started_long = length-overlay ended (454 + 16 * i) (little_bytes 4 s) start_fits

  -- and another length
  abbrev mended : List ℕ
  mended = overlay started (458 + 16 * i) (little_bytes 4 n)

  length_fits : (458 + 16 * i) + length (little_bytes 4 n) ≤ length started
  length_fits = omega (arith, place, first_long, ended_long, started_long)

  mended_long : length mended ≡ 512
  mended_long = length-overlay started (458 + 16 * i) (little_bytes 4 n) length_fits ∙ started_long ∙ ended_long ∙ first_long

  later_agrees : AgreesOutside ((454 + 16 * i, 4) ∷ (458 + 16 * i, 4) ∷ []) ended mended
  later_agrees =
      agrees_then (agrees_wider (within_left ((454 + 16 * i, 4) ∷ []) ((458 + 16 * i, 4) ∷ [])) (agrees_overlay ended (454 + 16 * i) (little_bytes 4 s) start_fits))
      (agrees_wider (within_right ((454 + 16 * i, 4) ∷ []) ((458 + 16 * i, 4) ∷ [])) (agrees_overlay started (458 + 16 * i) (little_bytes 4 n) length_fits))

  mended_agrees : AgreesOutside ((451 + 16 * i, 3) ∷ (454 + 16 * i, 4) ∷ (458 + 16 * i, 4) ∷ []) first mended
  mended_agrees =
      agrees_then (agrees_wider (within_left ((451 + 16 * i, 3) ∷ []) ((454 + 16 * i, 4) ∷ (458 + 16 * i, 4) ∷ [])) (agrees_overlay first (451 + 16 * i) last_end end_fits))
      (agrees_wider (within_right ((451 + 16 * i, 3) ∷ []) ((454 + 16 * i, 4) ∷ (458 + 16 * i, 4) ∷ [])) later_agrees)

  -- its last 66 bytes
  abbrev piece : List ℕ
  piece = slice_range mended 446 512

  piece_long : length piece ≡ 66
  piece_long = length-take-le 66 (drop 446 mended) (omega (arith, length-drop 446 mended, mended_long))

  abbrev new : List ℕ
  new = overlay b 446 piece

  piece_fits : 446 + length piece ≤ length b
  piece_fits = omega (arith, piece_long, room)

  inside : (k : ℕ) → 446 ≤ k → k < 512 → get_or new k 0 ≡ get_or mended k 0
  inside k low high =
      overlay_inside b 446 piece piece_fits k low (omega (arith, high, piece_long))
      ∙ get_or-take 66 (drop 446 mended) (k - 446) 0 (omega (arith, low, high)) ∙ get_or-drop 446 mended (k - 446) 0
      ∙ ap (λ (j : ℕ). get_or mended j 0) (omega (arith, low))

  others : (k : ℕ) → Outside ((451 + 16 * i, 3) ∷ (454 + 16 * i, 4) ∷ (458 + 16 * i, 4) ∷ []) k → get_or new k 0 ≡ get_or b k 0
  others k out =
      ⊎_elim (λ (below : k < 446). overlay_below b 446 piece piece_fits k below) (λ (low : 446 ≤ k).
      ⊎_elim (λ (high : k < 512). inside k low high ∙ mended_agrees.same k out ∙ first_same k high)
      (λ (past : 512 ≤ k). overlay_above b 446 piece piece_fits k (omega (arith, past, piece_long))) (cases_lt k 512)) (cases_lt k 446)

  end_is : (k : ℕ) → 451 + 16 * i ≤ k → k < 454 + 16 * i → get_or new k 0 ≡ 0xFF
  end_is k low high =
      inside k (omega (arith, low)) (omega (arith, high, place))
      ∙ overlay_below started (458 + 16 * i) (little_bytes 4 n) length_fits k (omega (arith, high))
      ∙ overlay_below ended (454 + 16 * i) (little_bytes 4 s) start_fits k (omega (arith, high))
      ∙ overlay_inside first (451 + 16 * i) last_end end_fits k low (omega (arith, high))
      ∙ ends_are (k - (451 + 16 * i)) (omega (arith, low, high))

  start_is : number_at new (454 + 16 * i) ≡ s
  start_is = number_is new (454 + 16 * i) s starts (λ j lt.
      inside (454 + 16 * i + j) (omega arith) (omega (arith, lt, place))
      ∙ overlay_below started (458 + 16 * i) (little_bytes 4 n) length_fits (454 + 16 * i + j) (omega (arith, lt))
      ∙ overlay_inside ended (454 + 16 * i) (little_bytes 4 s) start_fits (454 + 16 * i + j) (omega arith) (omega (arith, lt))
      ∙ ap (λ (k : ℕ). get_or (little_bytes 4 s) k 0) (omega arith))

  length_is : number_at new (458 + 16 * i) ≡ n
  length_is = number_is new (458 + 16 * i) n fits (λ j lt.
      inside (458 + 16 * i + j) (omega arith) (omega (arith, lt, place))
      ∙ overlay_inside started (458 + 16 * i) (little_bytes 4 n) length_fits (458 + 16 * i + j) (omega arith) (omega (arith, lt))
      ∙ ap (λ (k : ℕ). get_or (little_bytes 4 n) k 0) (omega arith))

  -- the start and the length are set
  pub has_span : HasSpan i s n b (overlay b 446 (slice_range (overlay (overlay (overlay (part b 0 512) (451 + 16 * i) last_end) (454 + 16 * i) (little_bytes 4 s)) (458 + 16 * i) (little_bytes 4 n)) 446 512))
  has_span = record {
    others = record { long = length-overlay b 446 piece piece_fits; same = others };
    end = end_is;
    start = start_is;
    length = length_is;
  }
