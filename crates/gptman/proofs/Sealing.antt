-- Sealing a header makes both checksums right, and changes nothing more.
use Rattle.std.proofs.Common.{◌≡◌, ◌++◌, ℕ, List, length, take, drop, map, get_or, replicate, refl, sym, ap, ◌∙◌}
use Rattle.std.specs.List.{range_with_len}
use Rattle.gptman.specs.Coding.{header_bytes, array_bytes}
use Rattle.gptman.specs.Crc.{crc_of}
use Rattle.gptman.specs.Copy.{header_crc, with_checksums}
use Rattle.gptman.specs.Reading.{CopyPlace, primary, backup}
use Rattle.gptman.specs.Table.{table_of, IsHeaderForm}
use Rattle.gptman.specs.Write.{copy_ranges}
use Rattle.gptman.specs.declared.codec.header.GPTHeader.{GPTHeader}
use Rattle.gptman.specs.declared.codec.entry.GPTPartitionEntry.{GPTPartitionEntry}
use Rattle.gptman.proofs.Assembly.{cells}

-- Both checksums are those of the bytes.
pub record IsSealed (h : GPTHeader) (es : List GPTPartitionEntry) : Type 0 where
  pub array : h.partition_entry_array_crc32 ≡ crc_of (array_bytes es)
  pub header : h.crc32_checksum ≡ header_crc (header_bytes h)

-- The bytes of a header with the checksum cleared, as in `header_crc`.
abbrev cleared : List ℕ → List ℕ
cleared x = take 16 x ++ replicate 4 0 ++ drop 20 x

-- A header whose first two fields are given by element.
abbrev listed : GPTHeader → (ℕ → ℕ) → (ℕ → ℕ) → GPTHeader
listed h s r = record h { signature = map s (range_with_len 0 8); revision = map r (range_with_len 0 4) }

cleared_listed : (h : GPTHeader) (s r : ℕ → ℕ) (sum : ℕ) → cleared (header_bytes (record (listed h s r) { crc32_checksum = sum })) ≡ cleared (header_bytes (listed h s r))
unfolding header_bytes
cleared_listed h s r sum = refl

-- The header's checksum does not depend on itself.
pub cleared_same : (h : GPTHeader) (sum : ℕ) → length h.signature ≡ 8 → length h.revision ≡ 4 → header_crc (header_bytes (record h { crc32_checksum = sum })) ≡ header_crc (header_bytes h)
cleared_same h sum long_s long_r =
    let s : ℕ → ℕ = λ k. get_or h.signature k 0 in
    let r : ℕ → ℕ = λ k. get_or h.revision k 0 in
    let same : h ≡ listed h s r =
    ap (λ (xs : List ℕ). record h { signature = xs }) (cells h.signature 8 long_s)
    ∙ ap (λ (xs : List ℕ). record h { signature = map s (range_with_len 0 8); revision = xs }) (cells h.revision 4 long_r) in
    ap (λ (g : GPTHeader). crc_of (cleared (header_bytes (record g { crc32_checksum = sum })))) same
    ∙ ap crc_of (cleared_listed h s r sum)
    ∙ ap (λ (g : GPTHeader). crc_of (cleared (header_bytes g))) (sym same)

-- Both checksums of a sealed header are right.
pub sealed_is : (h : GPTHeader) (es : List GPTPartitionEntry) → length h.signature ≡ 8 → length h.revision ≡ 4 → IsSealed (with_checksums h es) es
unfolding with_checksums
sealed_is h es long_s long_r =
    let summed : GPTHeader = record h { partition_entry_array_crc32 = crc_of (array_bytes es) } in
    record {
      array = refl;
      header = sym (cleared_same summed (header_crc (header_bytes summed)) long_s long_r);
    }

-- A sealed header is of the same table,
pub sealed_table : (h : GPTHeader) (es : List GPTPartitionEntry) → table_of (with_checksums h es) es ≡ table_of h es
unfolding with_checksums
sealed_table h es = refl

-- in the same form,
pub sealed_form : (side : CopyPlace) (h : GPTHeader) (es : List GPTPartitionEntry) → IsHeaderForm side h → IsHeaderForm side (with_checksums h es)
unfolding with_checksums
sealed_form primary h es form = form
sealed_form backup h es form = form

-- in the same ranges,
pub sealed_ranges : (h : GPTHeader) (es : List GPTPartitionEntry) (ss : ℕ) → copy_ranges (with_checksums h es) ss ≡ copy_ranges h ss
unfolding with_checksums
sealed_ranges h es ss = refl

-- and with as many entries.
pub sealed_count : (h : GPTHeader) (es : List GPTPartitionEntry) → (with_checksums h es).number_of_partition_entries ≡ h.number_of_partition_entries
unfolding with_checksums
sealed_count h es = refl
