-- Safe orders for the write of a new table over an old one.
use Rattle.std.proofs.Common.{◌≡◌, ◌≢◌, ◌↔◌, refl, sym, ap, ◌∙◌, subst, ℕ, Bool, true, false, not, IsTrue, List}
use Rattle.std.specs.Prelude.{if◌then◌else◌, nat_eq}
use Rattle.std.proofs.lemmas.Bool.{ne_eqb}
use Rattle.gptman.specs.Crash.{other_place}
use Rattle.gptman.specs.Layout.{copy_ranges_at}
use Rattle.gptman.specs.Ranges.{AreClear}
use Rattle.gptman.specs.Reading.{CopyPlace, primary, backup}
use Rattle.gptman.specs.Table.{table_in}
use Rattle.gptman.specs.declared.codec.header.GPTHeader.{GPTHeader}
use Rattle.gptman.specs.declared.table.GPT.{GPT}
use Rattle.gptedit_core.specs.Making.{copy_place_of, ranges_of}
use Rattle.gptedit_core.specs.declared.order.Copy.{Copy}

abbrev side_if : Bool → CopyPlace
side_if b = if b then primary else backup

pub side_first : (h : GPTHeader) → h.primary_lba ≡ 1 → copy_place_of h ≡ primary
side_first h one = ap (λ (n : ℕ). side_if (nat_eq n 1)) one

pub side_second : (h : GPTHeader) → h.primary_lba ≢ 1 → copy_place_of h ≡ backup
side_second h other = ap side_if (ne_eqb h.primary_lba 1 other)

-- The place of a header, by whether it is the primary one.
pub side_is : (h : GPTHeader) (b : Bool) → IsTrue b ↔ (h.primary_lba ≡ 1) → copy_place_of h ≡ side_if b
side_is h true is = side_first h (is.0 refl)
side_is h false is = side_second h (λ first. let one : false ≡ true = is.1 first in absurd (cc))

other_is : (b : Bool) → side_if (not b) ≡ other_place (side_if b)
other_is true = refl
other_is false = refl

-- The copies are those of the two places.
pub clear_is : (g next : GPT) (len : ℕ) (b : Bool) (read first : Copy) → IsTrue b ↔ (g.header.primary_lba ≡ 1)
    → ranges_of read ≡ copy_ranges_at (side_if b) (table_in g) g.sector_size len
    → ranges_of first ≡ copy_ranges_at (side_if (not b)) (table_in next) next.sector_size len
    → AreClear (ranges_of read) (ranges_of first)
    ↔ AreClear (copy_ranges_at (copy_place_of g.header) (table_in g) g.sector_size len) (copy_ranges_at (other_place (copy_place_of g.header)) (table_in next) next.sector_size len)
clear_is g next len b read first is one other =
    let side = side_is g.header b is in
    let own : List (ℕ × ℕ) = copy_ranges_at (copy_place_of g.header) (table_in g) g.sector_size len in
    let others : List (ℕ × ℕ) = copy_ranges_at (other_place (copy_place_of g.header)) (table_in next) next.sector_size len in
    let here : ranges_of read ≡ own = one ∙ ap (λ (s : CopyPlace). copy_ranges_at s (table_in g) g.sector_size len) (sym side) in
    let there : ranges_of first ≡ others = other ∙ ap (λ (s : CopyPlace). copy_ranges_at s (table_in next) next.sector_size len) (other_is b ∙ ap other_place (sym side)) in (
      λ clear. subst (λ (rs : List (ℕ × ℕ)). AreClear rs others) here (subst (λ (rs : List (ℕ × ℕ)). AreClear (ranges_of read) rs) there clear),
      λ clear. subst (λ (rs : List (ℕ × ℕ)). AreClear rs (ranges_of first)) (sym here) (subst (λ (rs : List (ℕ × ℕ)). AreClear own rs) (sym there) clear),
    )
