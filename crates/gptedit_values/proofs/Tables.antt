-- Tables of names, of which a loop has read the first rows.
use Rattle.std.proofs.Common.{◌≡◌, ◌+◌, ◌<◌, ◌≤◌, ℕ, zero, suc, List, [], ◌∷◌, length, take, get_or, All, Contains, map, subst, sym, ap, arith}
use Rattle.std.specs.List.{AllByRecursion}
use Rattle.std.proofs.lemmas.List.{take_all}
use Rattle.std.proofs.lemmas.List.Elements.{All-more, recursion_from_All}
use Rattle.std.proofs.Common.{◌∙◌, false}
use Rattle.std.specs.Prelude.{◌≢◌}
use Rattle.std.specs.Str.{bytes_eq}
use Rattle.std.proofs.lemmas.Bool.{false≢true}
use Rattle.std.proofs.lemmas.Slice.Eq.{bytes_eq-Decides}

-- A property of each row holds for one of them.
pub each_of : {X : Type 0} (Q : X → Type 0) (rows : List X) → AllByRecursion Q rows → (row : X) → Contains rows row → Q row
each_of Q [] h row (k, within, at) = absurd (omega (arith, within))
each_of Q (q ∷ qs) h row (zero, within, at) = subst Q at h.0
each_of Q (q ∷ qs) h row (suc k, within, at) = each_of Q qs h.1 row (k, omega (arith, within), at)

-- P holds for the name of no row.
pub record Lacks {R : Type 0} (name : R → List ℕ) (P : List ℕ → Type 0) (rows : List R) : Type 0 where
  pub none : All (λ row. ¬ (P (name row))) rows

pub lacks_first : {R : Type 0} (name : R → List ℕ) (P : List ℕ → Type 0) → Lacks name P []
lacks_first name P = record { none = λ k d within. absurd (omega (arith, within)) }

pub lacks_next : {R : Type 0} (name : R → List ℕ) (P : List ℕ → Type 0) (rows : List R) (i : ℕ) (d : R) → Lacks name P (take i rows)
    → i < length rows → ¬ (P (name (get_or rows i d))) → Lacks name P (take (i + 1) rows)
lacks_next name P rows i d sofar within other = record { none = All-more (λ row. ¬ (P (name row))) rows i d within sofar.none other }

pub lacks_rows : {R : Type 0} (name : R → List ℕ) (P : List ℕ → Type 0) (rows : List R) (i : ℕ) → Lacks name P (take i rows)
    → length rows ≤ i → AllByRecursion (λ row. ¬ (P (name row))) rows
lacks_rows name P rows i sofar over = recursion_from_All _ rows (subst (All (λ row. ¬ (P (name row)))) (take_all i rows over) sofar.none)

lacks_each : {R : Type 0} (name : R → List ℕ) (number : R → ℕ) (P : List ℕ → Type 0) (rows : List R) → AllByRecursion (λ row. ¬ (P (name row))) rows
    → (text : List ℕ) (n : ℕ) → Contains {X = List ℕ × ℕ} (map (λ row. (name row, number row)) rows) (text, n) → ¬ (P text)
lacks_each name number P [] h text n (k, within, at) = absurd (omega (arith, within))
lacks_each name number P (r ∷ rs) h text n (zero, within, at) = λ holds. h.0 (subst P (sym (ap (λ row. row.0) at)) holds)
lacks_each name number P (r ∷ rs) h text n (suc k, within, at) = lacks_each name number P rs h.1 text n (k, omega (arith, within), at)

pub lacks_all : {R : Type 0} (name : R → List ℕ) (number : R → ℕ) (P : List ℕ → Type 0) (rows : List R) (i : ℕ) → Lacks name P (take i rows)
    → length rows ≤ i
    → (text : List ℕ) (n : ℕ) → Contains {X = List ℕ × ℕ} (map (λ row. (name row, number row)) rows) (text, n) → ¬ (P text)
lacks_all name number P rows i sofar over =
    lacks_each name number P rows (lacks_rows name P rows i sofar over)

pub other_name : (word name : List ℕ) → false ≡ bytes_eq word name → word ≢ name
other_name word name differs same = false≢true (differs ∙ (bytes_eq-Decides word name).1 same)

-- Each row is a row of the table.
pub record AreRows {R : Type 0} (name : R → List ℕ) (number : R → ℕ) (table : List (List ℕ × ℕ)) (rows : List R) : Type 0 where
  pub row : (i : ℕ) (d : R) → i < length rows → Contains {X = List ℕ × ℕ} table (name (get_or rows i d), number (get_or rows i d))

row_of : {R : Type 0} (name : R → List ℕ) (number : R → ℕ) (table : List (List ℕ × ℕ)) (rows : List R)
    → AllByRecursion (λ row. Contains {X = List ℕ × ℕ} table (name row, number row)) rows
    → (i : ℕ) (d : R) → i < length rows → Contains {X = List ℕ × ℕ} table (name (get_or rows i d), number (get_or rows i d))
row_of name number table [] each i d within = absurd (omega (arith, within))
row_of name number table (r ∷ rs) each zero d within = each.0
row_of name number table (r ∷ rs) each (suc i) d within = row_of name number table rs each.1 i d (omega (arith, within))

pub are_rows : {R : Type 0} (name : R → List ℕ) (number : R → ℕ) (table : List (List ℕ × ℕ)) (rows : List R)
    → AllByRecursion (λ row. Contains {X = List ℕ × ℕ} table (name row, number row)) rows → AreRows name number table rows
are_rows name number table rows each = record { row = row_of name number table rows each }
