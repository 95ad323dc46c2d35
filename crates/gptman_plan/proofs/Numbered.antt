-- Lists with numbered elements.
use Rattle.std.proofs.Common.{◌≡◌, ℕ, ◌+◌, List, [], ◌∷◌, map, refl}
use Rattle.std.specs.List.{enumerate_from}

-- a map that does not read the numbers
pub map_numbered : {X Y : Type 0} (f : X → Y) (n : ℕ) (xs : List X) → map (λ (y : ℕ × X). f y.1) (enumerate_from n xs) ≡ map f xs
map_numbered f n [] = refl
map_numbered f n (x ∷ xs) = λ k. f x ∷ map_numbered f (n + 1) xs k
