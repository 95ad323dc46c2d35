-- The text of units.
use Rattle.std.proofs.Common.{◌≡◌, ℕ, zero, suc, set, replicate, length-append, eqb, ◌+◌, ◌<◌, ◌≤◌, Bool, true, false, ◌&&◌, List, [], ◌∷◌, ◌++◌, length, take, map, Option, refl, sym, ap, ◌∙◌, arith}
use Rattle.std.specs.Prelude.{if◌then◌else◌}
use Rattle.std.specs.Option.{unwrap_or}
use Rattle.std.proofs.lemmas.List.{take-replicate, take-append-le}
use Rattle.std.specs.Char.Utf16.{utf16_chars, utf16_lossy_chars, is_high_surrogate, is_low_surrogate}
use Rattle.gptman.specs.Name.{filled, HasUnits}

-- No units have no characters.
pub none_of_none : (us : List ℕ) → length us ≡ 0 → utf16_lossy_chars us ≡ []
unfolding utf16_chars
none_of_none [] none = refl
none_of_none (u ∷ us) none = cc

-- Either case has at least one character,
either_some : (b : Bool) (x y : Option ℕ) (xs ys : List (Option ℕ)) → map (λ o. unwrap_or o 0xFFFD) (if b then x ∷ xs else y ∷ ys) ≡ [] → ⊥
either_some true x y xs ys none = cc
either_some false x y xs ys none = cc

-- so some units have some.
pub some_of_some : (us : List ℕ) → eqb (length us) 0 ≡ false → utf16_lossy_chars us ≡ [] → ⊥
unfolding utf16_chars
some_of_some [] some none = cc
some_of_some (u ∷ []) some none = cc
some_of_some (h ∷ l ∷ us) some none = either_some (is_high_surrogate h && is_low_surrogate l) _ _ _ _ none

-- A unit after the elements of a list overwrites zeros.
fill_more : (us : List ℕ) (n k l u : ℕ) → length us < n → n ≤ length us + k → n ≤ length us + 1 + l
    → set (take n (us ++ replicate k 0)) (length us) u ≡ take n ((us ++ u ∷ []) ++ replicate l 0)
fill_more [] zero k l u lt enough more = absurd (omega arith)
fill_more [] (suc n) zero l u lt enough more = absurd (omega arith)
fill_more [] (suc n) (suc k) l u lt enough more =
    ap (λ (xs : List ℕ). u ∷ xs) (take-replicate {X = ℕ} n k 0 (omega arith) ∙ sym (take-replicate {X = ℕ} n l 0 (omega arith)))
fill_more (x ∷ us) zero k l u lt enough more = absurd (omega arith)
fill_more (x ∷ us) (suc n) k l u lt enough more =
    ap (λ (xs : List ℕ). x ∷ xs) (fill_more us n k l u (omega arith) (omega arith) (omega arith))

-- Without room nothing changes.
fill_full : (us : List ℕ) (n u : ℕ) → n ≤ length us → take n (us ++ replicate n 0) ≡ take n ((us ++ u ∷ []) ++ replicate n 0)
fill_full us n u h =
    take-append-le n us (replicate n 0) h
    ∙ sym (take-append-le n (us ++ u ∷ []) (replicate n 0) (omega (arith, length-append us (u ∷ []))) ∙ take-append-le n us (u ∷ []) h)

pub units_more : (units us : List ℕ) (len u : ℕ) → len < 36 → HasUnits units len us → HasUnits (set units len u) (len + 1) (us ++ u ∷ [])
units_more units us len u room h =
    let at : len ≡ length us = omega (arith, h.long) in
    record {
      are = ap (λ (xs : List ℕ). set xs len u) h.are ∙ ap (λ (i : ℕ). set (filled us) i u) at ∙ fill_more us 36 36 36 u (omega arith) (omega arith) (omega arith);
      long = omega (arith, h.long, length-append us (u ∷ []));
    }

pub units_full : (units us : List ℕ) (len u : ℕ) → 36 ≤ len → HasUnits units len us → HasUnits units len (us ++ u ∷ [])
units_full units us len u full h = record {
  are = h.are ∙ fill_full us 36 u (omega (arith, h.long));
  long = omega (arith, h.long, length-append us (u ∷ []));
}
