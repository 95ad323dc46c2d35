-- Disjoint ranges.
use Rattle.std.proofs.Common.{inl, inr, ℕ, List, [], ◌∷◌, ◌++◌, sym, subst}
use Rattle.std.proofs.lemmas.List.{append-nil}
use Rattle.gptman_disk.specs.Disk.{AgreesOutside, Outside}
use Rattle.gptman_disk.specs.Ranges.{AgreesInside, AreApart, AreClear, Inside, IsApartFromAll}
use Rattle.gptman_disk.proofs.Overlays.{IsApart, outside_apart}
use Rattle.gptman_disk.proofs.Ranges.{Ranges}

apart_back : (r s : ℕ × ℕ) → IsApart r s → IsApart s r
apart_back r s (inl none) = inr (inl none)
apart_back r s (inr (inl none)) = inl none
apart_back r s (inr (inr (inl before))) = inr (inr (inr before))
apart_back r s (inr (inr (inr after))) = inr (inr (inl after))

from_both : (r : ℕ × ℕ) (rs ss : Ranges) → IsApartFromAll r rs → IsApartFromAll r ss → IsApartFromAll r (rs ++ ss)
from_both r [] ss left right = right
from_both r (x ∷ rs) ss left right = (left.0, from_both r rs ss left.1 right)

from_left : (r : ℕ × ℕ) (rs ss : Ranges) → IsApartFromAll r (rs ++ ss) → IsApartFromAll r rs
from_left r [] ss apart = tt
from_left r (x ∷ rs) ss apart = (apart.0, from_left r rs ss apart.1)

pub from_right : (r : ℕ × ℕ) (rs ss : Ranges) → IsApartFromAll r (rs ++ ss) → IsApartFromAll r ss
from_right r [] ss apart = apart
from_right r (x ∷ rs) ss apart = from_right r rs ss apart.1

-- One range inserted between others.
put_between : (r : ℕ × ℕ) (rs ss : Ranges) → IsApartFromAll r (rs ++ ss) → AreApart (rs ++ ss) → AreApart (rs ++ r ∷ ss)
put_between r [] ss here apart = (here, apart)
put_between r (x ∷ rs) ss here apart =
    (from_both x rs (r ∷ ss) (from_left x rs ss apart.0) (apart_back r x here.0, from_right x rs ss apart.0), put_between r rs ss here.1 apart.1)

-- Disjoint ranges remain disjoint if the first and the last are exchanged.
pub apart_exchanged : (rs ss : Ranges) → AreApart (rs ++ ss) → AreApart (ss ++ rs)
apart_exchanged [] ss apart = subst AreApart (sym (append-nil ss)) apart
apart_exchanged (r ∷ rs) ss apart =
    put_between r ss rs (from_both r ss rs (from_right r rs ss apart.0) (from_left r rs ss apart.0)) (apart_exchanged rs ss apart.1)

-- ---- ranges that do not overlap others

pub clear_if_apart : (rs ss : Ranges) → AreApart (rs ++ ss) → AreClear rs ss
clear_if_apart [] ss apart = tt
clear_if_apart (r ∷ rs) ss apart = (from_right r rs ss apart.0, clear_if_apart rs ss apart.1)

-- An index inside some ranges is outside ranges that they do not overlap.
pub inside_clear : (rs ss : Ranges) (k : ℕ) → AreClear rs ss → Inside rs k → Outside ss k
inside_clear [] ss k clear inside = absurd inside
inside_clear (r ∷ rs) ss k clear (inl at) = outside_apart r ss k clear.0 at.0 at.1
inside_clear (r ∷ rs) ss k clear (inr later) = inside_clear rs ss k clear.1 later

-- Lists that agree outside some ranges agree in ranges that do not overlap them.
pub agrees_in : (rs ss : Ranges) (a b : List ℕ) → AreClear rs ss → AgreesOutside ss a b → AgreesInside rs a b
agrees_in rs ss a b clear agrees = record { long = agrees.long; same = λ k inside. agrees.same k (inside_clear rs ss k clear inside) }
