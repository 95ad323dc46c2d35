-- The result of a read, also in terms of later states.
use Rattle.std.proofs.Common.{◌≡◌, ⊎_elim, ◌⊎◌, ◌<◌, inl, inr, refl, sym, subst, ◌∙◌, ℕ, List, arith}
use Rattle.std.specs.Prelude.{Result, Ok, Err, IfOk, Option, Some, None}
use Rattle.std.proofs.lemmas.Bool.Decides.{eqb_tells}
use Rattle.gptman.specs.Alignment.{IsAlignment}
use Rattle.gptman.specs.Answers.{answer_of, Refuses}
use Rattle.gptman.specs.Copy.{Copy}
use Rattle.gptman.specs.Disk.{DiskState, HasFailedAsOften, Keeps, Rose}
use Rattle.gptman.specs.Fault.{Fault, invalid_signature, out_of_memory}
use Rattle.gptman.specs.Reading.{primary, backup, copy_in, found_sector_size, reading_of}
use Rattle.gptman.specs.Table.{entries_in}
use Rattle.gptman.specs.TableReads.{copy_of, CountsReading, IsAsRead, MayBeRead}
use Rattle.gptman.specs.declared.codec.entry.GPTPartitionEntry.{GPTPartitionEntry}
use Rattle.gptman.specs.declared.codec.header.GPTHeader.{GPTHeader}
use Rattle.gptman.specs.Error.{Error}
use Rattle.gptman.specs.declared.table.GPT.{GPT}
use Rattle.gptman.proofs.Fallback.{found_ok, found_second, taken_first}
use Rattle.gptman.proofs.ReadingLaw.{taken_second}
use Rattle.gptman.proofs.Runs.{rose_before}
use Rattle.gptman_change.specs.Reads.{IsReadFrom}

-- ---- the sector size

-- a disk with an accepted copy can be read
record HasReading (view : List ℕ) (ss : ℕ) : Type 0 where
  copy : Copy
  taken : reading_of view ss ≡ Ok copy

with_backup : (view : List ℕ) (ss : ℕ) (copy : Copy) (first : Result Copy Fault) → copy_in primary view ss ≡ first → copy_in backup view ss ≡ Ok copy → HasReading view ss
with_backup view ss copy (Ok other) is accepted = record { copy = other; taken = taken_first view ss other is }
with_backup view ss copy (Err fault) is accepted = record { copy = copy; taken = taken_second view ss fault copy is accepted }

has_reading : (old new : DiskState) (ss : ℕ) (copy : Copy) → MayBeRead old new ss copy → HasReading old.view ss
has_reading old new ss copy (inl first) = record { copy = copy; taken = taken_first old.view ss copy first }
has_reading old new ss copy (inr second) = with_backup old.view ss copy (copy_in primary old.view ss) refl second.0

-- The sector size of a copy that was read is the one that is found.
found_is : (old new : DiskState) (g : GPT) → MayBeRead old new g.sector_size (copy_of g)
    → (g.sector_size ≡ 512) ⊎ ((g.sector_size ≡ 4096) × (reading_of old.view 512 ≡ Err invalid_signature)) → g.sector_size ≡ found_sector_size old.view
found_is old new g accepted (inl small) =
    let read = has_reading old new 512 (copy_of g) (subst (λ (ss : ℕ). MayBeRead old new ss (copy_of g)) small accepted) in
    small ∙ sym (found_ok old.view read.copy read.taken)
found_is old new g accepted (inr great) = great.0 ∙ sym (found_second old.view invalid_signature great.1 refl)

-- ---- the table

-- a read with a sector size that is found
pub found_read : (old new : DiskState) (r : Result GPT Error)
    → Rose old new ⊎ (Refuses r out_of_memory ⊎ (answer_of copy_of r ≡ reading_of old.view (found_sector_size old.view)))
    → IfOk r (λ g. MayBeRead old new g.sector_size (copy_of g))
    → IfOk r (λ g. (g.sector_size ≡ 512) ⊎ ((g.sector_size ≡ 4096) × (reading_of old.view 512 ≡ Err invalid_signature)))
    → IfOk r IsAsRead
    → IfOk r (IsReadFrom None old new)
found_read old new (Err e) answer accepted second value = tt
found_read old new (Ok g) answer accepted second value =
    let size = found_is old new g accepted second in
    record {
      sector = size;
      accepted = accepted;
      taken = ⊎_elim (λ rose. inl rose)
          (λ rest. ⊎_elim (λ memory. absurd memory)
          (λ is. inr (subst (λ (ss : ℕ). reading_of old.view ss ≡ Ok (copy_of g)) (sym size) (sym is))) rest)
          answer;
      align = value.align;
    }

-- a read with a given sector size
pub given_read : (ss : ℕ) (old new : DiskState) (r : Result GPT Error)
    → Rose old new ⊎ (Refuses r out_of_memory ⊎ (answer_of copy_of r ≡ reading_of old.view ss))
    → IfOk r (λ g. MayBeRead old new ss (copy_of g))
    → IfOk r (λ g. g.sector_size ≡ ss)
    → IfOk r IsAsRead
    → IfOk r (IsReadFrom (Some ss) old new)
given_read ss old new (Err e) answer accepted sector value = tt
given_read ss old new (Ok g) answer accepted sector value = record {
  sector = sector;
  accepted = subst (λ (n : ℕ). MayBeRead old new n (copy_of g)) (sym sector) accepted;
  taken = ⊎_elim (λ rose. inl rose)
      (λ rest. ⊎_elim (λ memory. absurd memory)
      (λ is. inr (subst (λ (n : ℕ). reading_of old.view n ≡ Ok (copy_of g)) (sym sector) (sym is))) rest)
      answer;
  align = value.align;
}

-- it remains what was read, whatever follows
pub read_before : (size : Option ℕ) (old mid new : DiskState) (g : GPT) → IsReadFrom size old mid g → Keeps mid new → IsReadFrom size old new g
read_before size old mid new g was keeps = record {
  sector = was.sector;
  accepted = ⊎_elim (λ first. inl first)
      (λ second. inr (second.0, ⊎_elim (λ broken. inl broken) (λ rose. inr (rose_before old mid new rose keeps)) second.1))
      was.accepted;
  taken = ⊎_elim (λ rose. inl (rose_before old mid new rose keeps)) (λ is. inr is) was.taken;
  align = was.align;
}

-- the failures of a read, followed by calls that do not fail
pub counts_before : (old mid new : DiskState) (table : GPT) → CountsReading old mid table → HasFailedAsOften mid new → CountsReading old new table
counts_before old mid new table (inl none) still = inl (still ∙ none)
counts_before old mid new table (inr once) still = inr (omega (arith, once.0, still), once.1)

-- the alignment of entries is above 0
align_above : (h : GPTHeader) (es : List GPTPartitionEntry) (a : ℕ) → IsAlignment h es a → 0 < a
align_above h es a is = elim (eqb_tells a 0) as (λ _. 0 < a) [
  | inl zero ↦
      let none = zero.1 in
      absurd (omega (
        arith,
        none,
        (is.other (λ e. absurd (omega (arith, none, is.none e))) (λ e. absurd (omega (arith, none, is.of_one e)))
            (λ all. absurd (omega (arith, none, is.zero (λ e. absurd (omega (arith, none, is.none e))) all)))).low,
      ))
  | inr some ↦ omega (arith, some.1)
]

pub read_aligned : (r : Result GPT Error) → IfOk r IsAsRead → IfOk r (λ g. 0 < g.align)
read_aligned (Ok g) value = align_above g.header (entries_in g) g.align value.align
read_aligned (Err e) value = tt
