-- The two ranges of a place decide what it holds.
use Rattle.std.proofs.Common.{◌≡◌, ◌*◌, ℕ, Bool, true, false, List, length, ltb, Result, Ok, Err, refl, sym, ap, ◌∙◌, inl, inr, arith}
use Rattle.std.specs.Prelude.{Option, Some, None}
use Rattle.gptman_disk.specs.Bytes.{part}
use Rattle.gptman.specs.Coding.{header_of}
use Rattle.gptman.specs.Copy.{Copy, copy_at, entries_of}
use Rattle.gptman_disk.specs.Fault.{Fault, first_failing, invalid_signature}
use Rattle.gptman.specs.Layout.{Holds, copy_ranges_at}
use Rattle.gptman_disk.specs.Ranges.{AgreesInside}
use Rattle.gptman.specs.Reading.{CopyPlace, primary, backup, copy_start, copy_in}
use Rattle.gptman.specs.Table.{Table, IsForm}
use Rattle.gptman.specs.declared.codec.header.GPTHeader.{GPTHeader}
use Rattle.gptman_disk.proofs.Overlays.{part_in}
use Rattle.gptman.proofs.CopyParts.{copy_fault, copy_tests, copy_there, entries_part}
use Rattle.gptman.proofs.WrittenCopy.{array_start, written_array}
use Rattle.gptman.proofs.CopyTests.{entries_start, entries_length}

-- ---- the length and the two parts of a copy determine it

abbrev given : Option Fault → Copy → Result Copy Fault
given o copy = elim o [ None ↦ Ok copy | Some fault ↦ Err fault ]

abbrev copy_from : ℕ → ℕ → ℕ → List ℕ → List ℕ → Result Copy Fault
copy_from len p ss x y = given (first_failing (copy_tests len p ss x y)) (record { header = header_of x; entries = entries_of y (header_of x).number_of_partition_entries })

copy_at-is : (b : List ℕ) (p ss : ℕ) → copy_at b p ss ≡ copy_from (length b) p ss (part b p 92) (entries_part b p ss)
unfolding copy_at
copy_at-is b p ss = refl

-- Lists that agree in length, in the header and in the entries that it names have the same copy.
pub copy_at-local : (b c : List ℕ) (p ss : ℕ) → length c ≡ length b → part c p 92 ≡ part b p 92 → entries_part c p ss ≡ entries_part b p ss → copy_at c p ss ≡ copy_at b p ss
copy_at-local b c p ss long header entries =
    copy_at-is c p ss ∙ (λ i. copy_from (long i) p ss (header i) (entries i)) ∙ sym (copy_at-is b p ss)

accepted_cases : (b : List ℕ) (p ss : ℕ) (copy : Copy) (o : Option Fault) → copy_fault b p ss ≡ o → copy_at b p ss ≡ Ok copy → copy_there b p ss ≡ copy
unfolding copy_at
accepted_cases b p ss copy None is ok =
    let e : ◌≡◌ {A = Result Copy Fault} (Ok (copy_there b p ss)) (Ok copy) = sym (ap (λ (o : Option Fault). given o (copy_there b p ss)) is) ∙ ok in
    cc
accepted_cases b p ss copy (Some fault) is ok =
    let e : ◌≡◌ {A = Result Copy Fault} (Err fault) (Ok copy) = sym (ap (λ (o : Option Fault). given o (copy_there b p ss)) is) ∙ ok in
    absurd (cc)

-- An accepted copy is the one that is there.
pub accepted_is : (b : List ℕ) (p ss : ℕ) (copy : Copy) → copy_at b p ss ≡ Ok copy → copy_there b p ss ≡ copy
accepted_is b p ss copy ok = accepted_cases b p ss copy (copy_fault b p ss) refl ok

accepted_header : (b : List ℕ) (p ss : ℕ) (copy : Copy) → copy_at b p ss ≡ Ok copy → header_of (part b p 92) ≡ copy.header
accepted_header b p ss copy ok = ap (λ (c : Copy). c.header) (accepted_is b p ss copy ok)

-- ---- what two lists agree in

at_side : (side : CopyPlace) (b c : List ℕ) (ss : ℕ) (t : Table) (copy : Copy) → copy_at b (copy_start side (length b) ss) ss ≡ Ok copy → IsForm side t copy
    → AgreesInside (copy_ranges_at side t ss (length b)) b c → copy_at c (copy_start side (length b) ss) ss ≡ Ok copy
at_side side b c ss t copy ok form agrees =
    let p : ℕ = copy_start side (length b) ss in
    let h : GPTHeader = header_of (part b p 92) in
    let same_h : h ≡ copy.header = accepted_header b p ss copy ok in
    let start : entries_start h ss ≡ array_start side t ss =
    ap (λ (g : GPTHeader). entries_start g ss) same_h ∙ written_array side copy.header copy.entries ss form.form ∙ ap (λ (u : Table). array_start side u ss) form.table in
    let size : entries_length h ≡ 128 * t.count =
    ap (λ (g : GPTHeader). entries_length g) same_h ∙ ap (λ (u : Table). 128 * u.count) form.table in
    let header : part c p 92 ≡ part b p 92 = part_in b c p 92 agrees.long (λ k low high. agrees.same k (inl (low, high))) in
    let entries : part c (entries_start h ss) (entries_length h) ≡ part b (entries_start h ss) (entries_length h) =
    part_in b c (entries_start h ss) (entries_length h) agrees.long (λ k low high. agrees.same k (inr (inl (omega (arith, low, start), omega (arith, high, start, size))))) in
    copy_at-local b c p ss agrees.long header (ap (λ (x : List ℕ). part c (entries_start (header_of x) ss) (entries_length (header_of x))) header ∙ entries) ∙ ok

-- A list that agrees with another in the two ranges of a table at a place holds it there too.
pub holds_local : (b c : List ℕ) (ss : ℕ) (side : CopyPlace) (t : Table) → Holds b ss side t → AgreesInside (copy_ranges_at side t ss (length b)) b c → Holds c ss side t
unfolding copy_in
holds_local b c ss primary t holds agrees = record {
  copy = holds.copy;
  accepted = at_side primary b c ss t holds.copy holds.accepted holds.form agrees;
  form = holds.form;
}
holds_local b c ss backup t holds agrees = record {
  copy = holds.copy;
  accepted = by_length (ltb (length b) ss) refl;
  form = holds.form;
}
  where
    choose : List ℕ → ℕ → Bool → Result Copy Fault
    choose x n short = elim short [ true ↦ Err invalid_signature | false ↦ copy_at x (copy_start backup n ss) ss ]

    by_length : (short : Bool) → ltb (length b) ss ≡ short → copy_in backup c ss ≡ Ok holds.copy
    by_length true is =
        let e : ◌≡◌ {A = Result Copy Fault} (Err invalid_signature) (Ok holds.copy) = sym (ap (choose b (length b)) is) ∙ holds.accepted in
        absurd (cc)
    by_length false is =
        ap (choose c (length c)) (ap (λ (n : ℕ). ltb n ss) agrees.long ∙ is)
        ∙ ap (λ (n : ℕ). copy_at c (copy_start backup n ss) ss) agrees.long
        ∙ at_side backup b c ss t holds.copy (sym (ap (choose b (length b)) is) ∙ holds.accepted) holds.form agrees
