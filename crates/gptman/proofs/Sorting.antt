-- A sorted list with the elements of another, ties in their old order, is the other one sorted.
use Rattle.std.proofs.Common.{◌≡◌, ℕ, suc, ◌<◌, ◌≤◌, List, [], ◌∷◌, length, Bool, true, false, refl, sym, ◌∙◌, ap, cond, get_or, arith, nat_lt, nat_eq, filter, subst, ◌⊎◌, inl, inr}
use Rattle.std.proofs.lemmas.Bool.Decides.{nat_tests, leb_tells, eqb_tells}
use Rattle.std.specs.List.Sorted.{IsNonDecreasingBy, IsStableByKey, ties}
use Rattle.std.specs.Ordering.{nat_cmp, is_lt}
use Rattle.gptman.specs.Order.{put_in, by_rank}

module _ {X : Type 0} (r : X → ℕ) where
  -- The elements of the same rank as z.
  abbrev pub class : X → List X → List X
  class z xs = filter (λ y. nat_eq (r z) (r y)) xs

  abbrev pub Rises : ℕ → List X → Type 0
  Rises low [] = Unit {0}
  Rises low (x ∷ xs) = (low ≤ r x) × Rises (r x) xs

  in_class : (z x : X) (xs : List X) → r z ≡ r x → class z (x ∷ xs) ≡ x ∷ class z xs
  in_class z x xs e = let t : nat_eq (r z) (r x) ≡ true = grind (arith, nat_tests) in rw t refl

  not_in_class : (z x : X) (xs : List X) → (r z < r x) ⊎ (r x < r z) → class z (x ∷ xs) ≡ class z xs
  not_in_class z x xs e = let t : nat_eq (r z) (r x) ≡ false = grind (arith, nat_tests) in rw t refl

  ties_is : (z y : X) → ties (λ a b. is_lt (nat_cmp (r a) (r b))) z y ≡ nat_eq (r z) (r y)
  ties_is z y = grind (arith, nat_tests)

  class_none : (z : X) (low : ℕ) (ys : List X) → r z < low → Rises low ys → class z ys ≡ []
  class_none z low [] h s = refl
  class_none z low (y ∷ ys) h s = not_in_class z y ys (inl (omega arith)) ∙ class_none z (r y) ys (omega arith) s.1

  rises_from : (low : ℕ) (xs : List X) → ((k : ℕ) (d : X) → k < length xs → low ≤ r (get_or xs k d)) → IsNonDecreasingBy r xs → Rises low xs
  rises_from low [] f nd = tt
  rises_from low (x ∷ xs) f nd = (
    f 0 x (omega arith),
    rises_from (r x) xs (λ k d h. nd 0 (suc k) d (omega arith) (omega arith)) (λ i j d h l. nd (suc i) (suc j) d (omega arith) (omega arith)),
  )

  three : (a b : ℕ) → (a < b) ⊎ ((a ≡ b) ⊎ (b < a))
  three a b = elim (leb_tells (suc a) b) [ inl p ↦ inl p.1 | inr p ↦ elim (eqb_tells a b) [ inl q ↦ inr (inl q.1) | inr q ↦ inr (inr (omega arith)) ] ]

  tails : (x y : X) (xs ys : List X) → r x ≡ r y → ((z : X) → class z (x ∷ xs) ≡ class z (y ∷ ys)) → (z : X) → class z xs ≡ class z ys
  tails x y xs ys e h z =
      elim (three (r z) (r x)) [
        | inl lt ↦ sym (not_in_class z x xs (inl lt)) ∙ h z ∙ not_in_class z y ys (inl (omega arith))
        | inr (inl eq) ↦ let all = h z in let a = in_class z x xs eq in let b = in_class z y ys (eq ∙ e) in cc
        | inr (inr gt) ↦ sym (not_in_class z x xs (inr gt)) ∙ h z ∙ not_in_class z y ys (inr (omega arith))
      ]

  pub one_order : (low : ℕ) (xs ys : List X) → Rises low xs → Rises low ys → ((z : X) → class z xs ≡ class z ys) → xs ≡ ys
  one_order low [] [] s t h = refl
  one_order low [] (y ∷ ys) s t h = let e = h y in let f = in_class y y ys refl in cc
  one_order low (x ∷ xs) [] s t h = let e = h x in let f = in_class x x xs refl in cc
  one_order low (x ∷ xs) (y ∷ ys) s t h =
      elim (three (r x) (r y)) [
        | inl lt ↦ let e = h x in let f = in_class x x xs refl in let g : class x (y ∷ ys) ≡ [] = class_none x (r y) (y ∷ ys) lt (omega arith, t.1) in cc
        | inr (inl eq) ↦
            let e = h x in let a = in_class x x xs refl in let b = in_class x y ys eq in
            let rest : xs ≡ ys = one_order (r x) xs ys s.1 (subst (λ n. Rises n ys) (sym eq) t.1) (tails x y xs ys eq h) in
            cc
        | inr (inr gt) ↦ let e = h y in let f = in_class y y ys refl in let g : class y (x ∷ xs) ≡ [] = class_none y (r x) (x ∷ xs) gt (omega arith, s.1) in cc
      ]

  put_in_past : (x y : X) (ys : List X) → r y < r x → put_in r x (y ∷ ys) ≡ y ∷ put_in r x ys
  unfolding put_in
  put_in_past x y ys h = let t : nat_lt (r y) (r x) ≡ true = grind (arith, nat_tests) in rw t refl

  put_in_here : (x y : X) (ys : List X) → r x ≤ r y → put_in r x (y ∷ ys) ≡ x ∷ y ∷ ys
  unfolding put_in
  put_in_here x y ys h = let t : nat_lt (r y) (r x) ≡ false = grind (arith, nat_tests) in rw t refl

  past : (z x y : X) (ys ps : List X) → r y < r x → class z ps ≡ class z (x ∷ ys) → class z (y ∷ ps) ≡ class z (x ∷ y ∷ ys)
  past z x y ys ps h e =
      elim (three (r z) (r y)) [
        | inl lt ↦
            let a = not_in_class z y ps (inl lt) in let b = not_in_class z x (y ∷ ys) (inl (omega arith)) in
            let c = not_in_class z y ys (inl lt) in let d = not_in_class z x ys (inl (omega arith)) in cc
        | inr (inl eq) ↦
            let a = in_class z y ps eq in let b = not_in_class z x (y ∷ ys) (inl (omega arith)) in
            let c = in_class z y ys eq in let d = not_in_class z x ys (inl (omega arith)) in cc
        | inr (inr gt) ↦ elim (three (r z) (r x)) [
          | inl lt ↦
              let a = not_in_class z y ps (inr gt) in let b = not_in_class z x (y ∷ ys) (inl lt) in
              let c = not_in_class z y ys (inr gt) in let d = not_in_class z x ys (inl lt) in cc
          | inr (inl eq) ↦
              let a = not_in_class z y ps (inr gt) in let b = in_class z x (y ∷ ys) eq in
              let c = not_in_class z y ys (inr gt) in let d = in_class z x ys eq in cc
          | inr (inr more) ↦
              let a = not_in_class z y ps (inr gt) in let b = not_in_class z x (y ∷ ys) (inr more) in
              let c = not_in_class z y ys (inr gt) in let d = not_in_class z x ys (inr more) in cc
        ]
      ]

  put_class : (z x : X) (ys : List X) → class z (put_in r x ys) ≡ class z (x ∷ ys)
  unfolding put_in
  put_class z x [] = refl
  put_class z x (y ∷ ys) =
      elim (leb_tells (suc (r y)) (r x)) [
        | inl p ↦ ap (class z) (put_in_past x y ys p.1) ∙ past z x y ys (put_in r x ys) p.1 (put_class z x ys)
        | inr p ↦ ap (class z) (put_in_here x y ys (omega arith))
      ]

  put_rises : (low : ℕ) (x : X) (ys : List X) → low ≤ r x → Rises low ys → Rises low (put_in r x ys)
  unfolding put_in
  put_rises low x [] h s = (h, tt)
  put_rises low x (y ∷ ys) h s =
      elim (leb_tells (suc (r y)) (r x)) [
        | inl p ↦ subst (Rises low) (sym (put_in_past x y ys p.1)) (s.0, put_rises (r y) x ys (omega arith) s.1)
        | inr p ↦ subst (Rises low) (sym (put_in_here x y ys (omega arith))) (h, (omega arith, s.1))
      ]

  pub by_rank_class : (z : X) (xs : List X) → class z (by_rank r xs) ≡ class z xs
  unfolding by_rank
  by_rank_class z [] = refl
  by_rank_class z (x ∷ xs) = put_class z x (by_rank r xs) ∙ ap (λ ys. cond (nat_eq (r z) (r x)) (x ∷ ys) ys) (by_rank_class z xs)

  pub by_rank_rises : (xs : List X) → Rises 0 (by_rank r xs)
  unfolding by_rank
  by_rank_rises [] = tt
  by_rank_rises (x ∷ xs) = put_rises 0 x (by_rank r xs) (omega arith) (by_rank_rises xs)

  -- A stable sort returns the one sorted list.
  pub sorted_is : (xs ys : List X) → IsNonDecreasingBy r ys → IsStableByKey r nat_cmp xs ys → ys ≡ by_rank r xs
  sorted_is xs ys up stable =
      one_order 0 ys (by_rank r xs) (rises_from 0 ys (λ k d h. omega arith) up) (by_rank_rises xs)
      (λ z. ap (λ (p : X → Bool). filter p ys) (λ i y. sym (ties_is z y) i) ∙ stable z ∙ ap (λ (p : X → Bool). filter p xs) (λ i y. ties_is z y i) ∙ sym (by_rank_class z xs))

  -- Sorting twice is sorting once.
  pub by_rank_twice : (xs : List X) → by_rank r (by_rank r xs) ≡ by_rank r xs
  by_rank_twice xs = one_order 0 (by_rank r (by_rank r xs)) (by_rank r xs) (by_rank_rises (by_rank r xs)) (by_rank_rises xs) (λ z. by_rank_class z (by_rank r xs))
