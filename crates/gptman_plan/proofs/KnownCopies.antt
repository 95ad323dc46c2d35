-- A read has the same result on every disk with these ends, if the ranges that decide it are known.
use Rattle.std.proofs.Common.{◌≡◌, ◌≢◌, ◌≤◌, ◌<◌, ◌^◌, ◌⊎◌, inl, inr, ◌&&◌, true, false, ℕ, suc, Bool, ◌+◌, List, [], length, ltb, refl, sym, ◌∙◌, ap, subst, arith}
use Rattle.std.specs.Prelude.{if◌then◌else◌, Result, Ok, Err, IsErr, is_ok, MatchOption, Option, Some, None}
use Rattle.std.proofs.lemmas.Bool.{le-leb}
use Rattle.gptman.specs.Bytes.{part}
use Rattle.gptman.specs.Coding.{header_of}
use Rattle.gptman.specs.Fault.{Fault, io, invalid_signature, read_error, is_signature_fault, first_failing}
use Rattle.gptman.specs.Copy.{Copy, copy_at, header_result, array_result, header_tests, array_tests, unless, entries_of}
use Rattle.gptman.specs.declared.codec.header.GPTHeader.{GPTHeader}
use Rattle.gptman.specs.declared.codec.entry.GPTPartitionEntry.{GPTPartitionEntry}
use Rattle.gptman.proofs.CopyParts.{header_refused, array_refused, both_pass}
use Rattle.gptman.proofs.CopyTests.{entries_start, entries_length, header_short, array_size_wrong, array_beyond, array_short}
use Rattle.gptman.specs.Reading.{CopyPlace, primary, backup, both, copy_start, copy_in, reading_of, taken_from}
use Rattle.gptman_plan.specs.Ends.{HaveRange, IsDiskOf, length-zeroed, zeroed}
use Rattle.gptman.specs.Fault.{fault_number}
use Rattle.gptman_plan.specs.Reading.{OfEvery, IsHeaderKnown, IsArrayKnown, IsCopyKnown, IsKnownAt}
use Rattle.gptman_plan.proofs.Middle.{agree_in_ends, zero_ends}
use Rattle.gptman_plan.specs.declared.ends.Ends.{Ends}

-- a property of an option, case by case
pub at_none : {T : Type 0} (P : Type 0) (R : T → Type 0) (o : Option T) → o ≡ None → MatchOption o P R → P
at_none P R None is m = m
at_none P R (Some x) is m = absurd (cc)

pub at_some : {T : Type 0} (P : Type 0) (R : T → Type 0) (o : Option T) (x : T) → o ≡ Some x → MatchOption o P R → R x
at_some P R o x is m = subst (λ p. MatchOption p P R) is m

-- ---- a read, in terms of the two copies

abbrev reading_from : ℕ → ℕ → Result Copy Fault → Result Copy Fault → Result Copy Fault
reading_from ss len first second = elim first [
  | Ok copy ↦ Ok copy
  | Err fault ↦ elim (ltb len ss) [ true ↦ Err invalid_signature | false ↦ elim second [ Ok copy ↦ Ok copy | Err other ↦ Err (both fault other) ] ]
]

reading_is : (ss : ℕ) (b : List ℕ) → reading_of b ss ≡ reading_from ss (length b) (copy_at b ss ss) (copy_in backup b ss)
unfolding reading_of copy_in
reading_is ss b = refl

-- The fault of a read: no signature, or a fault of both copies.
abbrev pub IsOfReading : Fault → Type 0
IsOfReading fault = (fault_number fault ≡ 2) ⊎ (fault_number fault ≡ 7)

both_of : (one other : Fault) → IsOfReading (both one other)
both_of one other = by_test (is_signature_fault one && is_signature_fault other)
  where
    by_test : (t : Bool) → IsOfReading (if t then invalid_signature else read_error one other)
    by_test true = inl refl
    by_test false = inr refl

second_of : (one fault : Fault) (second : Result Copy Fault) → ◌≡◌ {A = Result Copy Fault} (elim second [ Ok copy ↦ Ok copy | Err other ↦ Err (both one other) ]) (Err fault) → IsOfReading fault
second_of one fault (Ok copy) is = absurd (cc)
second_of one fault (Err other) is = let same : both one other ≡ fault = cc in subst IsOfReading same (both_of one other)

fallback_of : (one fault : Fault) (second : Result Copy Fault) (short : Bool)
    → ◌≡◌ {A = Result Copy Fault} (elim short [ true ↦ Err invalid_signature | false ↦ elim second [ Ok copy ↦ Ok copy | Err other ↦ Err (both one other) ] ]) (Err fault) → IsOfReading fault
fallback_of one fault second true is = let same : invalid_signature ≡ fault = cc in subst IsOfReading same (inl refl)
fallback_of one fault second false is = second_of one fault second is

reading_fault_of : (ss len : ℕ) (fault : Fault) (first second : Result Copy Fault) → reading_from ss len first second ≡ Err fault → IsOfReading fault
reading_fault_of ss len fault (Ok copy) second is = absurd (cc)
reading_fault_of ss len fault (Err one) second is = fallback_of one fault second (ltb len ss) is

module _ (e : Ends) where
  same_length : (b : List ℕ) → IsDiskOf e b → length b ≡ length (zeroed e)
  same_length b ends = ends.long ∙ sym (length-zeroed e)

  same_part : (b : List ℕ) → IsDiskOf e b → (from len : ℕ) → HaveRange e (from, len) → part b from len ≡ part (zeroed e) from len
  same_part b ends from len known = agree_in_ends b (zeroed e) e.head.now e.tail.now e.size from len ends (zero_ends e) known

  -- ---- a header

  -- the disk ends before it
  pub short_header : (p : ℕ) → e.size < p + 92 → IsHeaderKnown e p
  short_header p short = λ b ends.
      header_short b p (omega (arith, short, ends.long))
      ∙ sym (header_short (zeroed e) p (omega (arith, short, length-zeroed e)))

  pub known_header : (p : ℕ) → HaveRange e (p, 92) → IsHeaderKnown e p
  unfolding header_result
  known_header p known = λ b ends.
      let of : ℕ → List ℕ → Result GPTHeader Fault = λ len x. unless (first_failing (header_tests len p x)) (header_of x) in
      λ i. of (same_length b ends i) (same_part b ends p 92 known i)

  -- ---- its entries

  module _ (ss : ℕ) (h : GPTHeader) where
    abbrev array_of : ℕ → List ℕ → Result (List GPTPartitionEntry) Fault
    array_of len y = unless (first_failing (array_tests len ss h y)) (entries_of y h.number_of_partition_entries)

    same_array : (b : List ℕ) → IsDiskOf e b → part b (entries_start h ss) (entries_length h) ≡ part (zeroed e) (entries_start h ss) (entries_length h) → array_result b ss h ≡ array_result (zeroed e) ss h
    unfolding array_result
    same_array b ends same = λ i. array_of (same_length b ends i) (same i)

    pub known_array : HaveRange e (entries_start h ss, entries_length h) → IsArrayKnown e ss h
    known_array known = λ b ends. same_array b ends (same_part b ends (entries_start h ss) (entries_length h) known)

    pub no_array : h.number_of_partition_entries ≡ 0 → IsArrayKnown e ss h
    no_array none = λ b ends.
        let no_bytes : entries_length h ≡ 0 = omega (arith, none) in
        let empty : (x : List ℕ) → part x (entries_start h ss) (entries_length h) ≡ [] = λ x. ap (λ (n : ℕ). part x (entries_start h ss) n) no_bytes in
        same_array b ends (empty b ∙ sym (empty (zeroed e)))

    pub wrong_array : h.number_of_partition_entries ≢ 0 → h.size_of_partition_entry ≢ 128 → IsArrayKnown e ss h
    wrong_array some wrong = λ b ends. array_size_wrong b ss h some wrong ∙ sym (array_size_wrong (zeroed e) ss h some wrong)

    pub beyond_array : h.number_of_partition_entries ≢ 0 → h.size_of_partition_entry ≡ 128 → 2 ^ 64 ≤ entries_start h ss → IsArrayKnown e ss h
    beyond_array some right beyond = λ b ends. array_beyond b ss h some right beyond ∙ sym (array_beyond (zeroed e) ss h some right beyond)

    pub short_array : h.number_of_partition_entries ≢ 0 → h.size_of_partition_entry ≡ 128 → entries_start h ss < 2 ^ 64 → e.size < entries_start h ss + entries_length h → IsArrayKnown e ss h
    short_array some right fits short = λ b ends.
        array_short b ss h some right fits (omega (arith, short, ends.long))
        ∙ sym (array_short (zeroed e) ss h some right fits (omega (arith, short, length-zeroed e)))

  -- ---- a copy

  module _ (p ss : ℕ) where
    -- a refused header determines the copy
    copy_of_refused : (fault : Fault) → header_result (zeroed e) p ≡ Err fault → IsHeaderKnown e p → IsCopyKnown e p ss
    copy_of_refused fault refused told = λ b ends.
        header_refused b p ss fault (told b ends ∙ refused) ∙ sym (header_refused (zeroed e) p ss fault refused)

    -- the disk ends before the header
    pub short_copy : e.size < p + 92 → IsCopyKnown e p ss
    short_copy short = copy_of_refused io (header_short (zeroed e) p (omega (arith, short, length-zeroed e))) (short_header p short)

    pub refused_copy : IsErr (header_result (zeroed e) p) → IsHeaderKnown e p → IsCopyKnown e p ss
    refused_copy refused told = by_result (header_result (zeroed e) p) refl refused
      where
        by_result : (r : Result GPTHeader Fault) → header_result (zeroed e) p ≡ r → IsErr r → IsCopyKnown e p ss
        by_result (Ok h) is bad = absurd (cc)
        by_result (Err fault) is bad = copy_of_refused fault is told

    -- an accepted header and its entries determine it
    pub whole_copy : (h : GPTHeader) → header_result (zeroed e) p ≡ Ok h → IsHeaderKnown e p → IsArrayKnown e ss h → IsCopyKnown e p ss
    whole_copy h good told array = by_result (array_result (zeroed e) ss h) refl
      where
        by_result : (r : Result (List GPTPartitionEntry) Fault) → array_result (zeroed e) ss h ≡ r → IsCopyKnown e p ss
        by_result (Ok es) is = λ b ends.
            both_pass b p ss h es (told b ends ∙ good) (array b ends ∙ is) ∙ sym (both_pass (zeroed e) p ss h es good is)
        by_result (Err fault) is = λ b ends.
            array_refused b p ss h fault (told b ends ∙ good) (array b ends ∙ is) ∙ sym (array_refused (zeroed e) p ss h fault good is)

  -- ---- the read

  -- the fault of a read, if it has one
  pub fault_known : (ss : ℕ) (fault : Fault) → OfEvery e (λ b. reading_of b ss ≡ Err fault) → IsOfReading fault
  fault_known ss fault told =
      let start : List ℕ = zeroed e in
      reading_fault_of ss (length start) fault (copy_at start ss ss) (copy_in backup start ss) (sym (reading_is ss start) ∙ told start (zero_ends e))

  module _ (ss : ℕ) where
    abbrev side_from : Result Copy Fault → CopyPlace
    side_from first = elim first [ Ok copy ↦ primary | Err fault ↦ backup ]

    side_is : (b : List ℕ) → taken_from b ss ≡ side_from (copy_at b ss ss)
    unfolding taken_from copy_in
    side_is b = refl

    -- the primary copy is good
    pub at_primary : IsCopyKnown e ss ss → is_ok (copy_at (zeroed e) ss ss) ≡ true → IsKnownAt e ss primary
    at_primary told good = by_result (copy_at (zeroed e) ss ss) refl good
      where
        start : List ℕ
        start = zeroed e

        by_result : (r : Result Copy Fault) → copy_at start ss ss ≡ r → is_ok r ≡ true → IsKnownAt e ss primary
        by_result (Err fault) is bad = absurd (cc)
        by_result (Ok copy) is good = record {
          reading = λ b ends. one b (told b ends ∙ is) ∙ sym (one start is);
          from = λ b ends. side_is b ∙ ap side_from (told b ends ∙ is);
        }
          where
            one : (x : List ℕ) → copy_at x ss ss ≡ Ok copy → reading_of x ss ≡ Ok copy
            one x at = reading_is ss x ∙ ap (λ r. reading_from ss (length x) r (copy_in backup x ss)) at

    -- the primary copy has a fault, and the backup copy is known
    at_backup : IsCopyKnown e ss ss → is_ok (copy_at (zeroed e) ss ss) ≡ false → OfEvery e (λ b. copy_in backup b ss ≡ copy_in backup (zeroed e) ss) → IsKnownAt e ss backup
    at_backup told bad second = by_result (copy_at (zeroed e) ss ss) refl bad
      where
        start : List ℕ
        start = zeroed e

        by_result : (r : Result Copy Fault) → copy_at start ss ss ≡ r → is_ok r ≡ false → IsKnownAt e ss backup
        by_result (Ok copy) is bad = absurd (cc)
        by_result (Err fault) is bad = record {
          reading = λ b ends. reading_is ss b ∙ (λ i. reading_from ss (same_length b ends i) (told b ends i) (second b ends i)) ∙ sym (reading_is ss start);
          from = λ b ends. side_is b ∙ ap side_from (told b ends ∙ is);
        }

    abbrev backup_from : ℕ → Result Copy Fault → Result Copy Fault
    backup_from len copy = elim (ltb len ss) [ true ↦ Err invalid_signature | false ↦ copy ]

    backup_is : (b : List ℕ) → copy_in backup b ss ≡ backup_from (length b) (copy_at b (copy_start backup (length b) ss) ss)
    unfolding copy_in
    backup_is b = refl

    -- The copy at the first byte of sector 1 is the primary one.
    pub primary_known : IsCopyKnown e ss ss → OfEvery e (λ b. copy_in primary b ss ≡ copy_in primary (zeroed e) ss)
    unfolding copy_in
    primary_known told = told

    -- A disk that is shorter than a sector has no backup copy.
    pub no_backup_known : e.size < ss → OfEvery e (λ b. copy_in backup b ss ≡ copy_in backup (zeroed e) ss)
    no_backup_known short = λ b ends. none b ends.long ∙ sym (none (zeroed e) (length-zeroed e))
      where
        none : (x : List ℕ) → length x ≡ e.size → copy_in backup x ss ≡ Err invalid_signature
        none x long =
            let yes : ltb (length x) ss ≡ true = le-leb (suc (length x)) ss (omega (arith, short, long)) in
            backup_is x ∙ ap (λ (t : Bool). elim t [ true ↦ Err invalid_signature | false ↦ copy_at x (copy_start backup (length x) ss) ss ]) yes

    -- The copy at the first byte of the last whole sector is the backup one.
    pub backup_known : IsCopyKnown e (copy_start backup e.size ss) ss → OfEvery e (λ b. copy_in backup b ss ≡ copy_in backup (zeroed e) ss)
    backup_known other = λ b ends. at_size b ends.long ∙ ap (backup_from e.size) (other b ends) ∙ sym (at_size (zeroed e) (length-zeroed e))
      where
        at_size : (x : List ℕ) → length x ≡ e.size → copy_in backup x ss ≡ backup_from e.size (copy_at x (copy_start backup e.size ss) ss)
        at_size x long = backup_is x ∙ ap (λ (n : ℕ). backup_from n (copy_at x (copy_start backup n ss) ss)) long

    -- the disk is shorter than a sector
    pub without_backup : IsCopyKnown e ss ss → is_ok (copy_at (zeroed e) ss ss) ≡ false → e.size < ss → IsKnownAt e ss backup
    without_backup told bad short = at_backup told bad (no_backup_known short)

    -- the backup copy is known
    pub with_backup : IsCopyKnown e ss ss → is_ok (copy_at (zeroed e) ss ss) ≡ false → IsCopyKnown e (copy_start backup e.size ss) ss → IsKnownAt e ss backup
    with_backup told bad other = at_backup told bad (backup_known other)
