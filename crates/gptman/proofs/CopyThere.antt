-- A header and entries at a place are accepted there, and an accepted copy is at the place where it was read.
use Rattle.std.proofs.Common.{◌≡◌, ◌≤◌, ◌<◌, ◌⊎◌, ◌||◌, ◌+◌, ◌*◌, ◌^◌, ℕ, Bool, true, List, [], length, get_or, eqb, ltb, leb, Option, Some, None, Result, Ok, Err, refl, sym, ap, ◌∙◌, subst, inl, inr, arith}
use Rattle.std.proofs.lemmas.Bool.{le-leb, lt-ltb, eq-eqb, leb-true, eqb-true}
use Rattle.std.proofs.lemmas.Bool.Decides.{eqb_tells}
use Rattle.std.proofs.lemmas.List.FromFn.{fill_by_all, length-map-range_with_len, get_or-map-range_with_len}
use lib.Pointwise.{bytes_decides}
use Rattle.gptman_disk.specs.Bytes.{part}
use Rattle.gptman.specs.Coding.{IsEntryCoding, HasReadName, header_of, entry_of}
use Rattle.gptman.specs.Crc.{crc_of}
use Rattle.gptman_disk.specs.Fault.{Fault}
use Rattle.gptman.specs.Copy.{CopyAt, Copy, copy_at, entries_of, right_signature, right_revision, header_crc}
use Rattle.gptman.specs.declared.codec.header.GPTHeader.{GPTHeader}
use Rattle.gptman.specs.declared.codec.entry.GPTPartitionEntry.{GPTPartitionEntry}
use Rattle.gptman.proofs.EntryBytes.{entry_is}
use Rattle.gptman.proofs.FirstFailing.{none_from_tests, none_or, tests_pass}
use Rattle.gptman.proofs.HeaderBytes.{header_is}
use Rattle.gptman_disk.proofs.Overlays.{part-part}
use Rattle.gptman.proofs.CopyParts.{copy_tests, copy_fault, copy_there, entries_part}
use Rattle.gptman.proofs.CopyTests.{entries_start, entries_length}
use Rattle.gptman.specs.Stop.{AcceptsRightCopies}

-- Entries on the disk begin before its end.
start_below : (n start size len : ℕ) → size ≡ 128 * n → (n ≡ 0) ⊎ (start + size ≤ len) → (n ≡ 0) ⊎ (start < len)
start_below n start size len is inside = elim (eqb_tells n 0) as (λ _. (n ≡ 0) ⊎ (start < len)) [
  | inl zero ↦ inl zero.1
  | inr some ↦ elim inside as (λ _. (n ≡ 0) ⊎ (start < len)) [
    | inl zero ↦ inl zero
    | inr within ↦ inr (omega (arith, some.1, within, is))
  ]
]

-- A test of entries passes if there are none, or by itself.
some_or_none : (n : ℕ) (t : Bool) (P : Type 0) → (t ≡ true → P) → (eqb n 0 || t) ≡ true → (n ≡ 0) ⊎ P
some_or_none n t P tells passed = elim (eqb_tells n 0) as (λ _. (n ≡ 0) ⊎ P) [
  | inl zero ↦ inl zero.1
  | inr some ↦ inr (tells (sym (ap (λ (b : Bool). b || t) some.0) ∙ passed))
]

coded : (x : List ℕ) → IsEntryCoding (entry_of x) x
unfolding entry_of
coded x = record { partition_type_guid = refl; unique_partition_guid = refl; starting_lba = refl; ending_lba = refl; attribute_bits = refl; units = refl }

named : (x : List ℕ) → HasReadName (entry_of x)
unfolding entry_of
named x = refl

-- An entry of a list of bytes is the one of its part.
entry_at : (b : List ℕ) (start n i : ℕ) (e : GPTPartitionEntry) → i < length (entries_of (part b start (128 * n)) n) → get_or (entries_of (part b start (128 * n)) n) i e ≡ entry_of (part b (start + 128 * i) 128)
unfolding entries_of
entry_at b start n i e lt =
    let y : List ℕ = part b start (128 * n) in
    let f : ℕ → GPTPartitionEntry = λ i. entry_of (part y (128 * i) 128) in
    let below : i < n = omega (arith, lt, length-map-range_with_len f 0 n) in
    get_or-map-range_with_len f 0 n i i e below (omega arith)
    ∙ ap entry_of (part-part b start (128 * n) (128 * i) 128 (omega (arith, below)))

counted : (y : List ℕ) (n : ℕ) → length (entries_of y n) ≡ n
unfolding entries_of
counted y n = length-map-range_with_len (λ (i : ℕ). entry_of (part y (128 * i) 128)) 0 n

-- The result for a copy with this fault, or with none.
abbrev given : Copy → Option Fault → Result Copy Fault
given there o = elim o [ None ↦ Ok there | Some fault ↦ Err fault ]

-- The bytes at p.
module _ (b : List ℕ) (p ss : ℕ) where
  abbrev bytes : List ℕ
  bytes = part b p 92

  abbrev header : GPTHeader
  header = header_of bytes

  abbrev count : ℕ
  count = header.number_of_partition_entries

  abbrev start : ℕ
  start = entries_start header ss

  abbrev size : ℕ
  size = entries_length header

  abbrev array : List ℕ
  array = entries_part b p ss

  no_fault : (es : List GPTPartitionEntry) → length b ≤ 2 ^ 64 → CopyAt b p ss header es → copy_fault b p ss ≡ None
  no_fault es long c =
      none_from_tests (copy_tests (length b) p ss bytes array) (
        le-leb (p + 92) (length b) c.header.inside,
        (
          (bytes_decides header.signature right_signature).1 c.header.signature,
          (
            (bytes_decides header.revision right_revision).1 c.header.revision,
            (
              eq-eqb header.header_size 92 c.header.header_size,
              (
                eq-eqb header.crc32_checksum (header_crc bytes) c.header.checksum,
                (
                  none_or count (eqb header.size_of_partition_entry 128) (header.size_of_partition_entry ≡ 128) (eq-eqb header.size_of_partition_entry 128) c.entry_size,
                  (
                    none_or count (ltb start (2 ^ 64)) (start < length b) (λ below. lt-ltb start (2 ^ 64) (omega (arith, below, long)))
                        (start_below count start size (length b) refl c.inside),
                    (
                      none_or count (leb (start + size) (length b)) (start + size ≤ length b) (le-leb (start + size) (length b)) c.inside,
                      (eq-eqb header.partition_entry_array_crc32 (crc_of array) c.checksum, tt),
                    ),
                  ),
                ),
              ),
            ),
          ),
        ),
      )

  there_is : (es : List GPTPartitionEntry) → length b ≤ 2 ^ 64 → CopyAt b p ss header es → copy_at b p ss ≡ Ok (record { header = header; entries = es })
  unfolding copy_at entries_of
  there_is es long c =
      let entries : es ≡ entries_of array count =
      fill_by_all (λ (i : ℕ). entry_of (part array (128 * i) 128)) es count (entry_of []) c.count
      (λ k lt.
      let below : k < length es = omega (arith, c.count) in
      entry_is (get_or es k (entry_of [])) (part b (start + 128 * k) 128) (c.coding k (entry_of []) below) (c.names k (entry_of []) below)
      ∙ ap entry_of (sym (part-part b start (128 * count) (128 * k) 128 (omega arith)))) in
      ap (given (copy_there b p ss)) (no_fault es long c) ∙ ap (λ (fs : List GPTPartitionEntry). Ok (record { header = header; entries = fs })) (sym entries)

  stands : copy_fault b p ss ≡ None → CopyAt b p ss header (entries_of array count)
  stands none =
      let t = tests_pass (copy_tests (length b) p ss bytes array) none in
      record {
        header = record {
          inside = leb-true (p + 92) (length b) t.0;
          coding = record {
            signature = refl;
            revision = refl;
            header_size = refl;
            crc32_checksum = refl;
            reserved = refl;
            primary_lba = refl;
            backup_lba = refl;
            first_usable_lba = refl;
            last_usable_lba = refl;
            disk_guid = refl;
            partition_entry_lba = refl;
            number_of_partition_entries = refl;
            size_of_partition_entry = refl;
            partition_entry_array_crc32 = refl;
          };
          signature = (bytes_decides header.signature right_signature).0 t.1.0;
          revision = (bytes_decides header.revision right_revision).0 t.1.1.0;
          header_size = eqb-true header.header_size 92 t.1.1.1.0;
          checksum = eqb-true header.crc32_checksum (header_crc bytes) t.1.1.1.1.0;
        };
        count = counted array count;
        entry_size = some_or_none count (eqb header.size_of_partition_entry 128) (header.size_of_partition_entry ≡ 128) (eqb-true header.size_of_partition_entry 128) t.1.1.1.1.1.0;
        inside = some_or_none count (leb (start + size) (length b)) (start + size ≤ length b) (leb-true (start + size) (length b)) t.1.1.1.1.1.1.1.0;
        coding = λ i e lt. subst (λ (g : GPTPartitionEntry). IsEntryCoding g (part b (start + 128 * i) 128)) (sym (entry_at b start count i e lt)) (coded (part b (start + 128 * i) 128));
        names = λ i e lt. subst HasReadName (sym (entry_at b start count i e lt)) (named (part b (start + 128 * i) 128));
        checksum = eqb-true header.partition_entry_array_crc32 (crc_of array) t.1.1.1.1.1.1.1.1.0;
      }

-- A header and entries at a place are accepted, as this copy.
pub copy_there_is : (b : List ℕ) (p ss : ℕ) (h : GPTHeader) (es : List GPTPartitionEntry) → length b ≤ 2 ^ 64 → CopyAt b p ss h es
    → copy_at b p ss ≡ Ok (record { header = h; entries = es })
copy_there_is b p ss h es long c =
    let P : GPTHeader → Type 0 = λ g. CopyAt b p ss g es → copy_at b p ss ≡ Ok (record { header = g; entries = es }) in
    subst P (sym (header_is h (part b p 92) c.header.coding)) (there_is b p ss es long) c

accepted : (o : Option Fault) (there copy : Copy) → given there o ≡ Ok copy → (o ≡ None) × (there ≡ copy)
accepted None there copy ok = (refl, ap (λ (r : Result Copy Fault). elim r [ Ok c ↦ c | Err fault ↦ there ]) ok)
accepted (Some fault) there copy ok = absurd (cc)

-- An accepted copy is there.
there_copy_is : (b : List ℕ) (p ss : ℕ) (copy : Copy) → copy_at b p ss ≡ Ok copy → CopyAt b p ss copy.header copy.entries
unfolding copy_at
there_copy_is b p ss copy ok =
    let both = accepted (copy_fault b p ss) (copy_there b p ss) copy ok in
    subst (λ (c : Copy). CopyAt b p ss c.header c.entries) both.1 (stands b p ss both.0)

pub accepts_right_copies : AcceptsRightCopies
accepts_right_copies b p ss h es short = (there_copy_is b p ss (record { header = h; entries = es }), copy_there_is b p ss h es (omega (arith, short)))
