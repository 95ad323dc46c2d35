-- Copies that overwrite a list of bytes.
use Rattle.std.proofs.Common.{◌≡◌, ◌⊎◌, inl, inr, ◌≤◌, ℕ, ◌+◌, ◌*◌, ◌++◌, Bool, true, List, [], ◌∷◌, length, sym, ap, ◌∙◌, subst, arith}
use Rattle.std.specs.List.{All, list_all}
use Rattle.std.specs.Prelude.{if◌then◌else◌, nat_eq}
use Rattle.std.proofs.lemmas.Bool.{and_parts, leb-true}
use Rattle.std.proofs.lemmas.Bool.Decides.{eqb_tells}
use Rattle.gptman_disk.specs.Bytes.{part}
use Rattle.gptman.specs.Coding.{FitsHeader, FitsEntry, header_bytes, array_bytes}
use Rattle.gptman_disk.specs.Disk.{AgreesOutside, Within}
use Rattle.gptman_disk.specs.Ranges.{AreApart, AreInside}
use Rattle.gptman.specs.Write.{array_range, copy_ranges, is_inside, IsCopyWritten, HasBytes}
use Rattle.gptman.specs.declared.codec.header.GPTHeader.{GPTHeader}
use Rattle.gptman.specs.declared.codec.entry.GPTPartitionEntry.{GPTPartitionEntry}
use Rattle.gptman.proofs.ArrayBytes.{array_long}
use Rattle.gptman.proofs.HeaderBytes.{header_long}
use Rattle.gptman_disk.proofs.Overlays.{part_in}
use Rattle.gptman_disk.proofs.Ranges.{Ranges, agrees_wider, within_self}
use Rattle.gptman.proofs.Apart.{clear_if_apart}
use Rattle.gptman.proofs.Argument.{IsDecidedBy, stays}
use Rattle.gptman.proofs.Pieces.{ranges_of, AllAreThere, overlaid_agrees, overlaid_are_there}

-- The two ranges of a copy, its header and its entries, even without entries.
abbrev pub full_ranges : GPTHeader → ℕ → Ranges
full_ranges h ss = (h.primary_lba * ss, 92) ∷ (h.partition_entry_lba * ss, 128 * h.number_of_partition_entries) ∷ []

-- A written copy is there if its two ranges are disjoint and on the disk. The length of the list is unchanged.
pub written_is_there : (old new : List ℕ) (h : GPTHeader) (es : List GPTPartitionEntry) (ss : ℕ) → AreApart (full_ranges h ss) → AreInside (full_ranges h ss) (length old)
    → FitsHeader h → All FitsEntry es → length es ≡ h.number_of_partition_entries → IsCopyWritten h es ss old new → HasBytes new h es ss × (length new ≡ length old)
written_is_there old new h es ss apart inside fits_h fits count laid =
    let pieces : List (ℕ × List ℕ) = (h.primary_lba * ss, header_bytes h) ∷ (h.partition_entry_lba * ss, array_bytes es) ∷ [] in
    let long_h = header_long h fits_h in
    let array : length (array_bytes es) ≡ 128 * h.number_of_partition_entries = omega (arith, array_long es fits, count) in
    let ranges : ranges_of pieces ≡ full_ranges h ss = λ i. (h.primary_lba * ss, long_h i) ∷ (h.partition_entry_lba * ss, array i) ∷ [] in
    let room : AreInside (ranges_of pieces) (length old) = subst (λ (rs : Ranges). AreInside rs (length old)) (sym ranges) inside in
    let stand = subst (AllAreThere pieces) (sym laid) (overlaid_are_there old pieces (subst AreApart (sym ranges) apart) room) in (
      record { header = ap (λ (n : ℕ). part new (h.primary_lba * ss) n) (sym long_h) ∙ stand.0; entries = stand.1.0 },
      ap (λ (b : List ℕ). length b) laid ∙ (overlaid_agrees old pieces room).long,
    )

-- The bytes in its ranges decide it.
pub bytes_decide : (h : GPTHeader) (es : List GPTPartitionEntry) (ss : ℕ) → All FitsEntry es → length es ≡ h.number_of_partition_entries
    → IsDecidedBy (λ b. HasBytes b h es ss) (full_ranges h ss)
bytes_decide h es ss fits count b c has agrees =
    let array : length (array_bytes es) ≡ 128 * h.number_of_partition_entries = omega (arith, array_long es fits, count) in
    record {
      header = part_in b c (h.primary_lba * ss) 92 agrees.long (λ k low high. agrees.same k (inl (low, high))) ∙ has.header;
      entries = part_in b c (h.partition_entry_lba * ss) (length (array_bytes es)) agrees.long
          (λ k low high. agrees.same k (inr (inl (low, omega (arith, high, array))))) ∙ has.entries;
    }

-- ---- the ranges of a copy, if an empty array has none

-- The range of n entries from a byte on.
abbrev pub entries_range : ℕ → Bool → ℕ → Ranges
entries_range n none start = if none then [] else ((start, 128 * n) ∷ [])

-- Ranges that are disjoint without those of empty arrays are disjoint with them.
with_empty : (a c p q n : ℕ) → AreApart (((a, 92) ∷ entries_range n (nat_eq n 0) c) ++ ((p, 92) ∷ entries_range n (nat_eq n 0) q))
    → AreApart ((a, 92) ∷ (c, 128 * n) ∷ (p, 92) ∷ (q, 128 * n) ∷ [])
with_empty a c p q n apart =
    let P : Bool → Type 0 = λ b. AreApart (((a, 92) ∷ entries_range n b c) ++ ((p, 92) ∷ entries_range n b q)) in
    elim (eqb_tells n 0) as (λ _. AreApart ((a, 92) ∷ (c, 128 * n) ∷ (p, 92) ∷ (q, 128 * n) ∷ [])) [
      | inl zero ↦
          let headers = subst P zero.0 apart in
          let none : 128 * n ≡ 0 = omega (arith, zero.1) in (
            (inr (inl none), (headers.0.0, (inr (inl none), tt))),
            (
              (inl none, (inl none, tt)),
              ((inr (inl none), tt), (tt, tt)),
            ),
          )
      | inr some ↦ subst P some.0 apart
    ]

-- The ranges of a copy on a disk.
pub copy_inside : (h : GPTHeader) (ss len : ℕ) → list_all (is_inside len) (copy_ranges h ss) ≡ true → AreInside (full_ranges h ss) len
copy_inside h ss len inside =
    let n : ℕ = h.number_of_partition_entries in
    let start : ℕ = h.partition_entry_lba * ss in
    let parts = and_parts (is_inside len (h.primary_lba * ss, 92)) (list_all (is_inside len) (array_range h ss)) inside in
    let P : Bool → Type 0 = λ b. list_all (is_inside len) (entries_range n b start) ≡ true in
    let entries : (128 * n ≡ 0) ⊎ (start + 128 * n ≤ len) =
    elim (eqb_tells n 0) as (λ _. (128 * n ≡ 0) ⊎ (start + 128 * n ≤ len)) [
      | inl zero ↦ inl (omega (arith, zero.1))
      | inr some ↦ inr (leb-true (start + 128 * n) len (and_parts (is_inside len (start, 128 * n)) true (subst P some.0 parts.1)).0)
    ] in
    (inr (leb-true (h.primary_lba * ss + 92) len parts.0), (entries, tt))

-- Two disjoint copies, including empty arrays.
pub copies_apart : (g h : GPTHeader) (ss : ℕ) → h.number_of_partition_entries ≡ g.number_of_partition_entries → AreApart (copy_ranges g ss ++ copy_ranges h ss)
    → AreApart (full_ranges g ss ++ full_ranges h ss)
copies_apart g h ss same apart =
    let P : ℕ → Type 0 = λ n. AreApart (copy_ranges g ss ++ ((h.primary_lba * ss, 92) ∷ entries_range n (nat_eq n 0) (h.partition_entry_lba * ss))) in
    let Q : ℕ → Type 0 = λ n. AreApart (full_ranges g ss ++ ((h.primary_lba * ss, 92) ∷ (h.partition_entry_lba * ss, 128 * n) ∷ [])) in
    subst Q (sym same) (with_empty (g.primary_lba * ss) (g.partition_entry_lba * ss) (h.primary_lba * ss) (h.partition_entry_lba * ss) g.number_of_partition_entries (subst P same apart))

-- The ranges that are written are among those of the copy.
pub within_copy : (h : GPTHeader) (ss : ℕ) → Within (copy_ranges h ss) (full_ranges h ss)
within_copy h ss =
    let start : ℕ = h.partition_entry_lba * ss in
    let n : ℕ = h.number_of_partition_entries in
    let P : Bool → Type 0 = λ b. Within ((h.primary_lba * ss, 92) ∷ entries_range n b start) (full_ranges h ss) in
    elim (eqb_tells n 0) as (λ _. Within (copy_ranges h ss) (full_ranges h ss)) [
      | inl zero ↦ subst P (sym zero.0) (record { covers = λ k o. (o.0, tt) })
      | inr some ↦ subst P (sym some.0) (within_self (full_ranges h ss))
    ]

-- Two disjoint copies on the disk are both there after both were written.
pub written_both : (old mid new : List ℕ) (g h : GPTHeader) (es : List GPTPartitionEntry) (ss : ℕ) → AreApart (copy_ranges g ss ++ copy_ranges h ss)
    → list_all (is_inside (length old)) (copy_ranges g ss) ≡ true → list_all (is_inside (length old)) (copy_ranges h ss) ≡ true
    → FitsHeader g → FitsHeader h → All FitsEntry es → length es ≡ g.number_of_partition_entries → length es ≡ h.number_of_partition_entries
    → IsCopyWritten g es ss old mid → IsCopyWritten h es ss mid new → AgreesOutside (copy_ranges h ss) mid new → HasBytes new g es ss × HasBytes new h es ss
written_both old mid new g h es ss apart inside_g inside_h fits_g fits_h fits count_g count_h laid_g laid_h agrees =
    let all = copies_apart g h ss (sym count_h ∙ count_g) apart in
    let own_g : AreApart (full_ranges g ss) = ((all.0.0, tt), (tt, tt)) in
    let first = written_is_there old mid g es ss own_g (copy_inside g ss (length old) inside_g) fits_g fits count_g laid_g in
    let room : AreInside (full_ranges h ss) (length mid) = subst (AreInside (full_ranges h ss)) (sym first.1) (copy_inside h ss (length old) inside_h) in (
      stays (λ b. HasBytes b g es ss) (full_ranges g ss) (full_ranges h ss) mid new (bytes_decide g es ss fits count_g)
          (clear_if_apart (full_ranges g ss) (full_ranges h ss) all) first.0 (agrees_wider (within_copy h ss) agrees),
      (written_is_there mid new h es ss all.1.1 room fits_h fits count_h laid_h).0,
    )
