-- The order of bytes on the disk, and in the text.
use Rattle.std.proofs.Common.{◌≡◌, ℕ, List, length, slice_index, refl, sym, subst, ap, ◌∙◌}
use Rattle.std.proofs.lemmas.List.{get_or_default}
use Rattle.uuid.specs.Parts.{swap_fields}
use Rattle.uuid.specs.Text.{by_index}
use Rattle.uuid.proofs.RoundTrips.{swap_twice}
use Rattle.uuid.proofs.TextLemmas.{by_index_same}
use Rattle.gptguid_core.specs.Forms.{disk_order}

swapped_by : (f : ℕ → ℕ) → swap_fields (by_index 16 f) ≡ disk_order (by_index 16 f)
unfolding by_index
swapped_by f = refl

-- `uuid` swaps the same bytes.
pub swapped : (xs : List ℕ) → length xs ≡ 16 → swap_fields xs ≡ disk_order xs
swapped xs len =
    subst (λ l. swap_fields l ≡ disk_order l) (sym (by_index_same xs 16 (λ k. slice_index xs k) len (λ k d within. get_or_default xs k d 0 (rw len within))))
    (swapped_by (λ k. slice_index xs k))

-- Reordering twice changes nothing.
pub ordered_twice : (xs : List ℕ) → length xs ≡ 16 → disk_order (disk_order xs) ≡ xs
ordered_twice xs len = ap disk_order (sym (swapped xs len)) ∙ sym (swapped (swap_fields xs) refl) ∙ swap_twice xs len
