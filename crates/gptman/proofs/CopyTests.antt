-- The results of the tests of a header and of its entries, by case.
use Rattle.std.proofs.Common.{◌≡◌, ◌≢◌, ◌≤◌, ◌<◌, ◌+◌, ◌^◌, ◌||◌, ◌⊎◌, ℕ, suc, Bool, true, false, List, [], ◌∷◌, length, eqb, ltb, leb, Some, Result, Ok, Err, refl, sym, ap, ◌∙◌, inr, arith, ◌*◌}
use Rattle.std.specs.Prelude.{if◌then◌else◌}
use Rattle.std.proofs.lemmas.Bool.{le-leb, lt-leb, eq-eqb, ne_eqb}
use Rattle.gptman_disk.specs.Bytes.{part}
use Rattle.gptman.specs.Coding.{header_of}
use Rattle.gptman.specs.Crc.{crc_of}
use Rattle.gptman_disk.specs.Fault.{Fault, first_failing, io, overflow, invalid_entry_size, invalid_array_checksum}
use Rattle.gptman.specs.Copy.{value_tests, header_result, array_result, unless, entries_of}
use Rattle.gptman.specs.declared.codec.header.GPTHeader.{GPTHeader}
use Rattle.gptman.specs.declared.codec.entry.GPTPartitionEntry.{GPTPartitionEntry}
use Rattle.gptman.proofs.FirstFailing.{none_or}

-- The first byte of the header's entries, and their length in bytes.
abbrev pub entries_start : GPTHeader → ℕ → ℕ
entries_start h ss = h.partition_entry_lba * ss

abbrev pub entries_length : GPTHeader → ℕ
entries_length h = 128 * h.number_of_partition_entries

-- The disk ends before the header.
pub header_short : (b : List ℕ) (p : ℕ) → length b < p + 92 → header_result b p ≡ Err io
unfolding header_result
header_short b p short =
    let x : List ℕ = part b p 92 in
    let chosen : Bool → Result GPTHeader Fault = λ t. unless (if t then first_failing (value_tests (header_of x) x) else Some io) (header_of x) in
    ap chosen (lt-leb (p + 92) (length b) short)

-- The tests of its values decide the header.
pub header_inside : (b : List ℕ) (p : ℕ) (h : GPTHeader) (x : List ℕ) → p + 92 ≤ length b → x ≡ part b p 92 → h ≡ header_of x → header_result b p ≡ unless (first_failing (value_tests h x)) h
unfolding header_result
header_inside b p h x inside bytes is =
    let y : List ℕ = part b p 92 in
    let chosen : Bool → Result GPTHeader Fault = λ t. unless (if t then first_failing (value_tests (header_of y) y) else Some io) (header_of y) in
    let at : List ℕ → GPTHeader → Result GPTHeader Fault = λ z g. unless (first_failing (value_tests g z)) g in
    ap chosen (le-leb (p + 92) (length b) inside) ∙ sym (ap (at x) is ∙ ap (λ (z : List ℕ). at z (header_of z)) bytes)

-- The result of the four tests of the entries.
abbrev chosen_of : GPTHeader → List ℕ → Bool → Bool → Bool → Bool → Result (List GPTPartitionEntry) Fault
chosen_of h y a b c d = unless (first_failing (
    (a, invalid_entry_size h.size_of_partition_entry) ∷ (b, overflow) ∷ (c, io)
    ∷ (d, invalid_array_checksum h.partition_entry_array_crc32 (crc_of y)) ∷ []))
    (entries_of y h.number_of_partition_entries)

module _ (b : List ℕ) (ss : ℕ) (h : GPTHeader) where
  abbrev pub array : List ℕ
  array = part b (entries_start h ss) (entries_length h)

  abbrev none : Bool
  none = eqb h.number_of_partition_entries 0

  result_is : array_result b ss h ≡ chosen_of h array (none || eqb h.size_of_partition_entry 128) (none || ltb (entries_start h ss) (2 ^ 64))
      (none || leb (entries_start h ss + entries_length h) (length b)) (eqb h.partition_entry_array_crc32 (crc_of array))
  unfolding array_result
  result_is = refl

  -- The entries have another size.
  pub array_size_wrong : h.number_of_partition_entries ≢ 0 → h.size_of_partition_entry ≢ 128 → array_result b ss h ≡ Err (invalid_entry_size h.size_of_partition_entry)
  array_size_wrong some wrong =
      let first : (none || eqb h.size_of_partition_entry 128) ≡ false =
      ap (λ (t : Bool). t || eqb h.size_of_partition_entry 128) (ne_eqb h.number_of_partition_entries 0 some) ∙ ne_eqb h.size_of_partition_entry 128 wrong in
      result_is ∙ ap (λ (t : Bool). chosen_of h array t (none || ltb (entries_start h ss) (2 ^ 64))
      (none || leb (entries_start h ss + entries_length h) (length b)) (eqb h.partition_entry_array_crc32 (crc_of array))) first

  first_passes : (h.number_of_partition_entries ≡ 0) ⊎ (h.size_of_partition_entry ≡ 128) → (none || eqb h.size_of_partition_entry 128) ≡ true
  first_passes = none_or h.number_of_partition_entries (eqb h.size_of_partition_entry 128) (h.size_of_partition_entry ≡ 128) (eq-eqb h.size_of_partition_entry 128)

  -- The entries begin at a byte that does not fit in 64 bits.
  pub array_beyond : h.number_of_partition_entries ≢ 0 → h.size_of_partition_entry ≡ 128 → 2 ^ 64 ≤ entries_start h ss → array_result b ss h ≡ Err overflow
  array_beyond some right beyond =
      let second : (none || ltb (entries_start h ss) (2 ^ 64)) ≡ false =
      ap (λ (t : Bool). t || ltb (entries_start h ss) (2 ^ 64)) (ne_eqb h.number_of_partition_entries 0 some) ∙ lt-leb (suc (entries_start h ss)) (2 ^ 64) (omega (arith, beyond)) in
      result_is
      ∙ ap (λ (t : Bool). chosen_of h array t (none || ltb (entries_start h ss) (2 ^ 64)) (none || leb (entries_start h ss + entries_length h) (length b)) (eqb h.partition_entry_array_crc32 (crc_of array))) (first_passes (inr right))
      ∙ ap (λ (t : Bool). chosen_of h array true t (none || leb (entries_start h ss + entries_length h) (length b)) (eqb h.partition_entry_array_crc32 (crc_of array))) second

  second_passes : (h.number_of_partition_entries ≡ 0) ⊎ (entries_start h ss < 2 ^ 64) → (none || ltb (entries_start h ss) (2 ^ 64)) ≡ true
  second_passes = none_or h.number_of_partition_entries (ltb (entries_start h ss) (2 ^ 64)) (entries_start h ss < 2 ^ 64) (λ lt. le-leb (suc (entries_start h ss)) (2 ^ 64) (omega (arith, lt)))

  -- The entries pass the end of the disk.
  pub array_short : h.number_of_partition_entries ≢ 0 → h.size_of_partition_entry ≡ 128 → entries_start h ss < 2 ^ 64 → length b < entries_start h ss + entries_length h → array_result b ss h ≡ Err io
  array_short some right fits short =
      let third : (none || leb (entries_start h ss + entries_length h) (length b)) ≡ false =
      ap (λ (t : Bool). t || leb (entries_start h ss + entries_length h) (length b)) (ne_eqb h.number_of_partition_entries 0 some)
      ∙ lt-leb (entries_start h ss + entries_length h) (length b) short in
      result_is
      ∙ ap (λ (t : Bool). chosen_of h array t (none || ltb (entries_start h ss) (2 ^ 64)) (none || leb (entries_start h ss + entries_length h) (length b)) (eqb h.partition_entry_array_crc32 (crc_of array))) (first_passes (inr right))
      ∙ ap (λ (t : Bool). chosen_of h array true t (none || leb (entries_start h ss + entries_length h) (length b)) (eqb h.partition_entry_array_crc32 (crc_of array))) (second_passes (inr fits))
      ∙ ap (λ (t : Bool). chosen_of h array true true t (eqb h.partition_entry_array_crc32 (crc_of array))) third

  -- The tests that the entries pass before their checksum is computed.
  pub record IsInPlace : Type 0 where
    pub size : (h.number_of_partition_entries ≡ 0) ⊎ (h.size_of_partition_entry ≡ 128)
    pub fits : (h.number_of_partition_entries ≡ 0) ⊎ (entries_start h ss < 2 ^ 64)
    pub inside : (h.number_of_partition_entries ≡ 0) ⊎ (entries_start h ss + entries_length h ≤ length b)

  in_place : IsInPlace → array_result b ss h ≡ chosen_of h array true true true (eqb h.partition_entry_array_crc32 (crc_of array))
  in_place is =
      result_is
      ∙ ap (λ (t : Bool). chosen_of h array t (none || ltb (entries_start h ss) (2 ^ 64)) (none || leb (entries_start h ss + entries_length h) (length b)) (eqb h.partition_entry_array_crc32 (crc_of array))) (first_passes is.size)
      ∙ ap (λ (t : Bool). chosen_of h array true t (none || leb (entries_start h ss + entries_length h) (length b)) (eqb h.partition_entry_array_crc32 (crc_of array))) (second_passes is.fits)
      ∙ ap (λ (t : Bool). chosen_of h array true true t (eqb h.partition_entry_array_crc32 (crc_of array)))
      (none_or h.number_of_partition_entries (leb (entries_start h ss + entries_length h) (length b)) (entries_start h ss + entries_length h ≤ length b)
      (le-leb (entries_start h ss + entries_length h) (length b)) is.inside)

  -- The entries have another checksum.
  pub array_changed : IsInPlace → h.partition_entry_array_crc32 ≢ crc_of array → array_result b ss h ≡ Err (invalid_array_checksum h.partition_entry_array_crc32 (crc_of array))
  array_changed is wrong = in_place is ∙ ap (chosen_of h array true true true) (ne_eqb h.partition_entry_array_crc32 (crc_of array) wrong)

  -- The entries pass.
  pub array_good : IsInPlace → h.partition_entry_array_crc32 ≡ crc_of array → array_result b ss h ≡ Ok (entries_of array h.number_of_partition_entries)
  array_good is right = in_place is ∙ ap (chosen_of h array true true true) (eq-eqb h.partition_entry_array_crc32 (crc_of array) right)
