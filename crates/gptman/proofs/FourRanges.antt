-- The four ranges of a table in the stated layout, as those of its two headers.
use Rattle.std.proofs.Common.{◌≡◌, ℕ, ◌+◌, ◌-◌, ◌*◌, ◌/◌, ◌++◌, List, [], ◌∷◌, sym, ap, ◌∙◌, subst}
use Rattle.gptman.specs.Crash.{HasRangesOf, other_place}
use Rattle.gptman_disk.specs.Disk.{Within}
use Rattle.gptman_disk.specs.Ranges.{AreApart, AreClear}
use Rattle.gptman.specs.Layout.{IsLaidOut, copy_ranges_at}
use Rattle.gptman.specs.Reading.{CopyPlace, primary, backup}
use Rattle.gptman.specs.Table.{Table, table_of, IsHeaderForm}
use Rattle.gptman.specs.Write.{other_header, four_ranges}
use Rattle.gptman.specs.declared.codec.entry.GPTPartitionEntry.{GPTPartitionEntry}
use Rattle.gptman.specs.declared.codec.header.GPTHeader.{GPTHeader}
use Rattle.gptman.proofs.Apart.{apart_exchanged, clear_if_apart}
use Rattle.gptman.proofs.CopiesInPlace.{full_ranges, within_copy}
use Rattle.gptman.proofs.OtherHeader.{other_table, other_form}
use Rattle.gptman_disk.proofs.Ranges.{Ranges, within_then, within_both, within_left, within_right}
use Rattle.gptman.proofs.WrittenCopy.{written_start, written_array}

-- ---- a header in a form

module _ (side : CopyPlace) (h : GPTHeader) (es : List GPTPartitionEntry) (ss len : ℕ) (form : IsHeaderForm side h) (laid : IsLaidOut (table_of h es) ss len) where
  -- Its ranges are those of its table at the place,
  pub form_ranges : copy_ranges_at side (table_of h es) ss len ≡ full_ranges h ss
  form_ranges =
      let start = written_start side h es ss len form laid in
      let array = written_array side h es ss form in
      λ i. (sym start i, 92) ∷ (sym array i, 128 * h.number_of_partition_entries) ∷ []

  pub other_laid_out : IsLaidOut (table_of (other_header h) es) ss len
  other_laid_out = subst (λ (t : Table). IsLaidOut t ss len) (sym (other_table h es)) laid

-- and those of the other header are the table's at the other place.
pub other_ranges : (side : CopyPlace) (h : GPTHeader) (es : List GPTPartitionEntry) (ss len : ℕ) → IsHeaderForm side h → IsLaidOut (table_of h es) ss len
    → copy_ranges_at (other_place side) (table_of h es) ss len ≡ full_ranges (other_header h) ss
other_ranges side h es ss len form laid =
    ap (λ (t : Table). copy_ranges_at (other_place side) t ss len) (sym (other_table h es))
    ∙ form_ranges (other_place side) (other_header h) es ss len (other_form side h form) (other_laid_out side h es ss len form laid)

-- A table's ranges at its two places are disjoint.
pub sides_apart : (side : CopyPlace) (t : Table) (ss len : ℕ) → IsLaidOut t ss len → AreApart (copy_ranges_at side t ss len ++ copy_ranges_at (other_place side) t ss len)
sides_apart primary t ss len laid = laid.apart
sides_apart backup t ss len laid = apart_exchanged (copy_ranges_at primary t ss len) (copy_ranges_at backup t ss len) laid.apart

-- All four ranges of a table.
abbrev pub four_ranges_at : Table → ℕ → ℕ → Ranges
four_ranges_at t ss len = copy_ranges_at primary t ss len ++ copy_ranges_at backup t ss len

-- The ranges of both places are the four ranges.
pub in_four : (side : CopyPlace) (t : Table) (ss len : ℕ) → Within (copy_ranges_at side t ss len ++ copy_ranges_at (other_place side) t ss len) (four_ranges_at t ss len)
in_four primary t ss len = record { covers = λ k o. o }
in_four backup t ss len = within_both (within_right (copy_ranges_at primary t ss len) (copy_ranges_at backup t ss len)) (within_left (copy_ranges_at primary t ss len) (copy_ranges_at backup t ss len))

-- A write of a table in the layout writes only in them.
pub within_four : (side : CopyPlace) (h : GPTHeader) (es : List GPTPartitionEntry) (ss len : ℕ) → IsHeaderForm side h → IsLaidOut (table_of h es) ss len
    → Within (four_ranges h ss) (four_ranges_at (table_of h es) ss len)
within_four side h es ss len form laid =
    let own = form_ranges side h es ss len form laid in
    let other = other_ranges side h es ss len form laid in
    let both : Within (four_ranges h ss) (full_ranges h ss ++ full_ranges (other_header h) ss) =
    within_both (within_then (within_copy h ss) (within_left (full_ranges h ss) (full_ranges (other_header h) ss)))
    (within_then (within_copy (other_header h) ss) (within_right (full_ranges h ss) (full_ranges (other_header h) ss))) in
    within_then both (subst (λ (rs : Ranges). Within rs (four_ranges_at (table_of h es) ss len)) (λ i. own i ++ other i) (in_four side (table_of h es) ss len))

-- The two places share no byte.
pub sides_clear : (side : CopyPlace) (t : Table) (ss len : ℕ) → IsLaidOut t ss len → AreClear (copy_ranges_at (other_place side) t ss len) (copy_ranges_at side t ss len)
sides_clear primary t ss len laid = clear_if_apart (copy_ranges_at backup t ss len) (copy_ranges_at primary t ss len) (sides_apart backup t ss len laid)
sides_clear backup t ss len laid = clear_if_apart (copy_ranges_at primary t ss len) (copy_ranges_at backup t ss len) (sides_apart primary t ss len laid)

-- Tables with the same count and last usable sector have the same ranges.
pub same_ranges : (side : CopyPlace) (old new : Table) (ss len : ℕ) → HasRangesOf old new → copy_ranges_at side old ss len ≡ copy_ranges_at side new ss len
same_ranges primary old new ss len same = ap (λ (n : ℕ). (ss, 92) ∷ (2 * ss, 128 * n) ∷ []) (sym same.count)
same_ranges backup old new ss len same = λ i. ((len / ss - 1) * ss, 92) ∷ ((sym same.last i + 1) * ss, 128 * sym same.count i) ∷ []
