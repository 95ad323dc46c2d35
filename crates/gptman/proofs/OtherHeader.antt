-- The other header of a table: the same table, in the other form.
use Rattle.std.proofs.Common.{◌≡◌, ◌+◌, ℕ, List, min, max, Bool, sym, ap, ◌∙◌, inl, inr, arith}
use Rattle.std.proofs.lemmas.Bool.Decides.{eqb_tells}
use Rattle.std.specs.Prelude.{if◌then◌else◌, nat_eq}
use Rattle.gptman.specs.Crash.{other_place}
use Rattle.gptman.specs.Reading.{CopyPlace, primary, backup}
use Rattle.gptman.specs.Table.{table_of, IsHeaderForm}
use Rattle.gptman.specs.Write.{other_header}
use Rattle.gptman.specs.declared.codec.header.GPTHeader.{GPTHeader}
use Rattle.gptman.specs.declared.codec.entry.GPTPartitionEntry.{GPTPartitionEntry}

-- The other header is of the same table.
pub other_table : (h : GPTHeader) (es : List GPTPartitionEntry) → table_of (other_header h) es ≡ table_of h es
other_table h es =
    let low : min h.backup_lba h.primary_lba ≡ min h.primary_lba h.backup_lba = omega arith in
    let high : max h.backup_lba h.primary_lba ≡ max h.primary_lba h.backup_lba = omega arith in
    λ i. record (table_of h es) { low_sector = low i; high_sector = high i }

-- The first sector of the other copy's entries.
other_at_2 : (n last : ℕ) → n ≡ 2 → (if nat_eq n 2 then last + 1 else 2) ≡ last + 1
other_at_2 n last e = ap (λ (k : ℕ). if nat_eq k 2 then last + 1 else 2) e

other_at_last : (n last : ℕ) → n ≡ last + 1 → (if nat_eq n 2 then last + 1 else 2) ≡ 2
other_at_last n last e = elim (eqb_tells n 2) as (λ _. (if nat_eq n 2 then last + 1 else 2) ≡ 2) [
  | inl two ↦ other_at_2 n last two.1 ∙ sym e ∙ two.1
  | inr not ↦ ap (λ (b : Bool). if b then last + 1 else 2) not.0
]

-- It is in the other form.
pub other_form : (side : CopyPlace) (h : GPTHeader) → IsHeaderForm side h → IsHeaderForm (other_place side) (other_header h)
other_form primary h form = (form.0, other_at_2 h.partition_entry_lba h.last_usable_lba form.1)
other_form backup h form = (form.0, other_at_last h.partition_entry_lba h.last_usable_lba form.1)
