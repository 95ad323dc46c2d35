-- The ranges of a copy that is written.
use Rattle.std.proofs.Common.{◌≡◌, ◌≢◌, ◌≤◌, ◌+◌, ◌*◌, inl, inr, ℕ, Bool, [], ◌∷◌, arith, sym, ap, ◌∙◌, subst}
use Rattle.std.specs.Prelude.{if◌then◌else◌}
use Rattle.std.proofs.lemmas.Bool.Decides.{eqb_tells}
use Rattle.gptman_disk.specs.Disk.{Within}
use Rattle.gptman.specs.Write.{copy_ranges, array_range}
use Rattle.gptman.specs.declared.codec.header.GPTHeader.{GPTHeader}
use Rattle.gptman_disk.proofs.Ranges.{Ranges, within_range, within_later}

-- Entries have a range.
pub array_range_is : (h : GPTHeader) (ss : ℕ) → h.number_of_partition_entries ≢ 0 → array_range h ss ≡ (h.partition_entry_lba * ss, 128 * h.number_of_partition_entries) ∷ []
array_range_is h ss some =
    let chosen : Bool → Ranges = λ b. if b then [] else ((h.partition_entry_lba * ss, 128 * h.number_of_partition_entries) ∷ []) in
    elim (eqb_tells h.number_of_partition_entries 0) as (λ _. array_range h ss ≡ (h.partition_entry_lba * ss, 128 * h.number_of_partition_entries) ∷ []) [
      | inl zero ↦ absurd (some zero.1)
      | inr not ↦ ap chosen not.0
    ]

-- The 92 bytes of the header.
pub within_header : (h : GPTHeader) (ss p n : ℕ) → p ≡ h.primary_lba * ss → n ≡ 92 → Within ((p, n) ∷ []) (copy_ranges h ss)
within_header h ss p n at size =
    let low : h.primary_lba * ss ≤ p = omega arith in
    let high : p + n ≤ h.primary_lba * ss + 92 = omega arith in
    within_range low high

-- 128 bytes for each entry.
pub within_array : (h : GPTHeader) (ss p n : ℕ) → p ≡ h.partition_entry_lba * ss → n ≡ h.number_of_partition_entries → n ≢ 0 → Within ((p, 128 * n) ∷ []) (copy_ranges h ss)
within_array h ss p n at count some =
    let low : h.partition_entry_lba * ss ≤ p = omega arith in
    let high : p + 128 * n ≤ h.partition_entry_lba * ss + 128 * h.number_of_partition_entries = omega arith in
    within_later (subst (λ (rs : Ranges). Within ((p, 128 * n) ∷ []) rs) (sym (array_range_is h ss (λ none. some (count ∙ none)))) (within_range low high))

-- The ranges do not depend on checksums.
pub ranges_still : (old summed new : GPTHeader) (array own ss : ℕ) → summed ≡ record old { partition_entry_array_crc32 = array } → new ≡ record summed { crc32_checksum = own } → copy_ranges new ss ≡ copy_ranges old ss
ranges_still old summed new array own ss is_summed is =
    let at : GPTHeader → Ranges = λ h. copy_ranges h ss in
    let first : at summed ≡ at old = ap at is_summed in
    let second : at new ≡ at summed = ap at is in
    second ∙ first
