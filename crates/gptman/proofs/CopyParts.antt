-- A copy is determined by its header, then by its entries.
use Rattle.std.proofs.Common.{◌≡◌, ℕ, Bool, List, ◌++◌, length, Option, Some, None, Result, Ok, Err, refl, ap, ◌∙◌}
use Rattle.gptman_disk.specs.Bytes.{part}
use Rattle.gptman.specs.Coding.{header_of}
use Rattle.gptman_disk.specs.Fault.{Fault, first_failing}
use Rattle.gptman.specs.Copy.{Copy, header_tests, array_tests, copy_at, header_result, array_result, unless, entries_of}
use Rattle.gptman.specs.declared.codec.header.GPTHeader.{GPTHeader}
use Rattle.gptman.specs.declared.codec.entry.GPTPartitionEntry.{GPTPartitionEntry}
use Rattle.gptman.proofs.FirstFailing.{first_tests, later_tests}
use Rattle.gptman.proofs.CopyTests.{entries_start, entries_length}

-- The bytes of the entries of the header at byte p.
abbrev pub entries_part : List ℕ → ℕ → ℕ → List ℕ
entries_part b p ss = part b (entries_start (header_of (part b p 92)) ss) (entries_length (header_of (part b p 92)))

-- All nine tests, in order.
abbrev pub copy_tests : ℕ → ℕ → ℕ → List ℕ → List ℕ → List (Bool × Fault)
copy_tests len p ss x y = header_tests len p x ++ array_tests len ss (header_of x) y

-- The fault of the copy at byte p, if it has one.
abbrev pub copy_fault : List ℕ → ℕ → ℕ → Option Fault
copy_fault b p ss = first_failing (copy_tests (length b) p ss (part b p 92) (entries_part b p ss))

-- The copy there, if it has no fault.
abbrev pub copy_there : List ℕ → ℕ → ℕ → Copy
copy_there b p ss = record { header = header_of (part b p 92); entries = entries_of (entries_part b p ss) (header_of (part b p 92)).number_of_partition_entries }

-- The same bytes at the same place are the same copy.
pub copy_moved : {b c : List ℕ} {p q : ℕ} (ss : ℕ) → b ≡ c → p ≡ q → copy_at b p ss ≡ copy_at c q ss
copy_moved ss same at = λ i. copy_at (same i) (at i) ss

refused_by : {X : Type 0} (o : Option Fault) (x : X) (fault : Fault) → unless o x ≡ Err fault → o ≡ Some fault
refused_by None x fault is = absurd (cc)
refused_by (Some other) x fault is = cc

passed_by : {X : Type 0} (o : Option Fault) (x y : X) → unless o x ≡ Ok y → (o ≡ None) × (x ≡ y)
passed_by None x y is = (refl, cc)
passed_by (Some other) x y is = absurd (cc)

module _ (b : List ℕ) (p ss : ℕ) where
  abbrev here : List ℕ
  here = part b p 92

  at_fault : (fault : Fault) → first_failing (copy_tests (length b) p ss here (entries_part b p ss)) ≡ Some fault → copy_at b p ss ≡ Err fault
  unfolding copy_at
  at_fault fault is =
      let choose : Option Fault → Result Copy Fault = λ o. elim o [ None ↦ Ok (copy_there b p ss) | Some other ↦ Err other ] in
      ap choose is

  at_none : first_failing (copy_tests (length b) p ss here (entries_part b p ss)) ≡ None → copy_at b p ss ≡ Ok (copy_there b p ss)
  unfolding copy_at
  at_none is =
      let choose : Option Fault → Result Copy Fault = λ o. elim o [ None ↦ Ok (copy_there b p ss) | Some other ↦ Err other ] in
      ap choose is

  -- The header is refused.
  pub header_refused : (fault : Fault) → header_result b p ≡ Err fault → copy_at b p ss ≡ Err fault
  unfolding header_result
  header_refused fault is =
      let h : GPTHeader = header_of here in
      at_fault fault (first_tests (header_tests (length b) p here) (array_tests (length b) ss h (entries_part b p ss)) fault
      (refused_by (first_failing (header_tests (length b) p here)) h fault is))

  -- The entries are refused.
  pub array_refused : (h : GPTHeader) (fault : Fault) → header_result b p ≡ Ok h → array_result b ss h ≡ Err fault → copy_at b p ss ≡ Err fault
  unfolding header_result array_result
  array_refused h fault good is =
      let own : GPTHeader = header_of here in
      let passed = passed_by (first_failing (header_tests (length b) p here)) own h good in
      let tests_at : GPTHeader → Option Fault = λ g. first_failing (array_tests (length b) ss g (part b (entries_start g ss) (entries_length g))) in
      at_fault fault (later_tests (header_tests (length b) p here) (array_tests (length b) ss own (entries_part b p ss)) passed.0
      ∙ ap tests_at passed.1
      ∙ refused_by (tests_at h) (entries_of (part b (entries_start h ss) (entries_length h)) h.number_of_partition_entries) fault is)

  -- Both pass.
  pub both_pass : (h : GPTHeader) (es : List GPTPartitionEntry) → header_result b p ≡ Ok h → array_result b ss h ≡ Ok es → copy_at b p ss ≡ Ok (record { header = h; entries = es })
  unfolding header_result array_result
  both_pass h es good is =
      let own : GPTHeader = header_of here in
      let passed = passed_by (first_failing (header_tests (length b) p here)) own h good in
      let tests_at : GPTHeader → Option Fault = λ g. first_failing (array_tests (length b) ss g (part b (entries_start g ss) (entries_length g))) in
      let entries_at : GPTHeader → List GPTPartitionEntry = λ g. entries_of (part b (entries_start g ss) (entries_length g)) g.number_of_partition_entries in
      let array = passed_by (tests_at h) (entries_at h) es is in
      let copy_with : GPTHeader → Result Copy Fault = λ g. Ok (record { header = g; entries = entries_at g }) in
      at_none (later_tests (header_tests (length b) p here) (array_tests (length b) ss own (entries_part b p ss)) passed.0 ∙ ap tests_at passed.1 ∙ array.0)
      ∙ ap copy_with passed.1 ∙ ap (λ (xs : List GPTPartitionEntry). Ok (record { header = h; entries = xs })) array.1
