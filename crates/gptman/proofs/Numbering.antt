-- Lists whose elements are numbered.
use Rattle.std.proofs.Common.{◌≡◌, ℕ, ◌+◌, List, [], ◌∷◌, length, Bool, refl, arith, count_by}
use Rattle.std.specs.List.{enumerate_from, fold}
use Rattle.std.specs.Prelude.{if◌then◌else◌}

pub length_numbered : {X : Type 0} (n : ℕ) (xs : List X) → length (enumerate_from n xs) ≡ length xs
length_numbered n [] = refl
length_numbered n (x ∷ xs) = let e = length_numbered (n + 1) xs in omega (arith, e)

-- A fold that ignores the numbers.
pub fold_numbered : {X A : Type 0} (h : A → X → A) (a : A) (n : ℕ) (xs : List X) → fold (λ b (y : ℕ × X). h b y.1) a (enumerate_from n xs) ≡ fold h a xs
fold_numbered h a n [] = refl
fold_numbered h a n (x ∷ xs) = fold_numbered h (h a x) (n + 1) xs

-- A test that ignores the number.
pub count_numbered : {X : Type 0} (p : X → Bool) (n : ℕ) (xs : List X) → count_by (λ (y : ℕ × X). p y.1) (enumerate_from n xs) ≡ count_by p xs
count_numbered p n xs = fold_numbered (λ (a : ℕ) x. a + (if p x then 1 else 0)) 0 n xs
