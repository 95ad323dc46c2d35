-- Why there is no plan, and the number that is returned.
use Rattle.std.proofs.Common.{◌≡◌, ◌≢◌, ◌≤◌, ◌<◌, ◌⊎◌, ◌+◌, ⊎_elim, inl, inr, ℕ, List, length, refl, ap, sym, ◌∙◌, subst, arith}
use Rattle.std.proofs.lemmas.Bool.{cases_lt}
use Rattle.std.specs.Prelude.{Some}
use Rattle.gptman.specs.Fit.{fit_fault, new_header_of}
use Rattle.gptman.specs.Disk.{DiskState, Rose}
use Rattle.gptman.specs.Fault.{Fault, fault_of, io, invalid_signature, invalid_revision, invalid_header_size, invalid_checksum, invalid_array_checksum, read_error, no_space_left, conflict_partition_guid, invalid_partition_boundaries, invalid_partition_number, unused_partition, partition_not_found, overflow, out_of_memory, invalid_entry_size}
use Rattle.gptman.specs.TableWrites.{RefusesTable, RefusesWrite, table_write_fault}
use Rattle.gptman.specs.TableWrites.RefusesTable.{table_no_memory, table_not_valid, table_no_room}
use Rattle.gptman.specs.TableWrites.RefusesWrite.{no_memory, not_valid, no_room, disk_failed}
use Rattle.gptman.specs.declared.table.GPT.{GPT}
use Rattle.gptman_plan.specs.Ends.{HaveRange, IsKnown}
use Rattle.gptman.specs.Fault.{fault_number}
use Rattle.gptman_plan.specs.Planning.{Cause, IsNumberOf, IsOfFault, IsRefusal, RefusesNew, needed_after, refusal_number}
use Rattle.gptman_plan.specs.Planning.Cause.{bad_argument, a_fault, other_length, other_layout}
use Rattle.gptman_plan.specs.declared.planning.PlanError.{PlanError}
use Rattle.gptman_plan.specs.declared.planning.PlanError.TheVariants.{BadArgument, Refused, Lacks, OtherLength, OtherLayout}
use Rattle.gptman_plan.specs.declared.records.Needed.{Needed}
use Rattle.gptman_plan.specs.declared.ends.Ends.{Ends}

-- ---- numbers

-- the numbers of faults
pub within_16 : (fault : Fault) → (0 < fault_number fault) × (fault_number fault ≤ 16)
within_16 io = (omega arith, omega arith)
within_16 invalid_signature = (omega arith, omega arith)
within_16 invalid_revision = (omega arith, omega arith)
within_16 invalid_header_size = (omega arith, omega arith)
within_16 (invalid_checksum stored computed) = (omega arith, omega arith)
within_16 (invalid_array_checksum stored computed) = (omega arith, omega arith)
within_16 (read_error first second) = (omega arith, omega arith)
within_16 no_space_left = (omega arith, omega arith)
within_16 conflict_partition_guid = (omega arith, omega arith)
within_16 invalid_partition_boundaries = (omega arith, omega arith)
within_16 (invalid_partition_number number) = (omega arith, omega arith)
within_16 unused_partition = (omega arith, omega arith)
within_16 partition_not_found = (omega arith, omega arith)
within_16 overflow = (omega arith, omega arith)
within_16 out_of_memory = (omega arith, omega arith)
within_16 (invalid_entry_size size) = (omega arith, omega arith)

-- the numbers of refusals
pub numbers : (r : PlanError) → (0 < refusal_number r) × (refusal_number r ≢ 104) × (refusal_number r ≢ 102) × ((refusal_number r ≤ 16) ⊎ ((100 ≤ refusal_number r) × (refusal_number r ≤ 105)))
numbers BadArgument = (omega arith, λ is. absurd (omega (arith, is)), λ is. absurd (omega (arith, is)), inr (omega arith, omega arith))
numbers (Refused error) = let n = within_16 (fault_of error) in (n.0, λ is. absurd (omega (arith, n.1, is)), λ is. absurd (omega (arith, n.1, is)), inl (omega (arith, n.1)))
numbers (Lacks lack) = (omega arith, λ is. absurd (omega (arith, is)), λ is. absurd (omega (arith, is)), inr (omega arith, omega arith))
numbers OtherLength = (omega arith, λ is. absurd (omega (arith, is)), λ is. absurd (omega (arith, is)), inr (omega arith, omega arith))
numbers OtherLayout = (omega arith, λ is. absurd (omega (arith, is)), λ is. absurd (omega (arith, is)), inr (omega arith, omega arith))

-- what the caller learns, except for a missing range
pub not_lacking : (r : PlanError) (needed : Needed) → refusal_number r ≢ 103 → needed_after r needed ≡ needed
not_lacking BadArgument needed not = refl
not_lacking (Refused error) needed not = refl
not_lacking (Lacks lack) needed not = absurd (not refl)
not_lacking OtherLength needed not = refl
not_lacking OtherLayout needed not = refl

-- ---- reasons

-- one reason implies another
pub refused_as : (why why_too : Cause → Type 0) (e : Ends) → ((cause : Cause) → why cause → why_too cause)
    → (r : PlanError) → IsRefusal why e r → IsRefusal why_too e r
refused_as why why_too e f BadArgument is = f bad_argument is
refused_as why why_too e f (Refused error) is = ⊎_elim (λ none. inl none) (λ w. inr (f (a_fault (fault_of error)) w)) is
refused_as why why_too e f (Lacks lack) is = is
refused_as why why_too e f OtherLength is = f other_length is
refused_as why why_too e f OtherLayout is = f other_layout is

-- so does a fault
pub fault_as : (why : Fault → Type 0) (why_too : Cause → Type 0) → ((fault : Fault) → why fault → why_too (a_fault fault)) → (cause : Cause) → IsOfFault why cause → why_too cause
fault_as why why_too f bad_argument is = absurd is
fault_as why why_too f (a_fault fault) is = f fault is
fault_as why why_too f other_length is = absurd is
fault_as why why_too f other_layout is = absurd is

-- A range is missing only if the ends do not meet.
pub ends_apart : (first last size from len : ℕ) → ¬ IsKnown first last size (from, len) → from + len ≤ size → first + last < size
ends_apart first last size from len not within = ⊎_elim (λ less. less) (λ met. absurd (not (inr (inr (met, within))))) (cases_lt (first + last) size)

-- ---- the number of a refusal

module _ (why : Cause → Type 0) (e : Ends) where
  pub lacks_of : (r : PlanError) (needed : Needed) → IsRefusal why e r → refusal_number r ≡ 103
      → (¬ HaveRange e ((needed_after r needed).from, (needed_after r needed).length)) × ((needed_after r needed).from + (needed_after r needed).length ≤ e.size)
  lacks_of BadArgument needed is seventeen = absurd (omega (arith, seventeen))
  lacks_of (Refused error) needed is seventeen = absurd (omega (arith, (within_16 (fault_of error)).1, seventeen))
  lacks_of (Lacks lack) needed is seventeen = is
  lacks_of OtherLength needed is seventeen = absurd (omega (arith, seventeen))
  lacks_of OtherLayout needed is seventeen = absurd (omega (arith, seventeen))

  fault_of_number : (r : PlanError) → IsRefusal why e r → refusal_number r ≤ 16 → refusal_number r ≢ 15 → IsNumberOf (λ fault. why (a_fault fault)) (refusal_number r)
  fault_of_number BadArgument is below other = absurd (omega (arith, below))
  fault_of_number (Refused error) is below other = ⊎_elim
      (λ none. absurd (other (ap fault_number none)))
      (λ w. record { fault = fault_of error; holds = w; number_is = refl })
      is
  fault_of_number (Lacks lack) is below other = absurd (omega (arith, below))
  fault_of_number OtherLength is below other = absurd (omega (arith, below))
  fault_of_number OtherLayout is below other = absurd (omega (arith, below))

  bad_of : (r : PlanError) → IsRefusal why e r → refusal_number r ≡ 105 → why bad_argument
  bad_of BadArgument is nineteen = is
  bad_of (Refused error) is nineteen = absurd (omega (arith, (within_16 (fault_of error)).1, nineteen))
  bad_of (Lacks lack) is nineteen = absurd (omega (arith, nineteen))
  bad_of OtherLength is nineteen = absurd (omega (arith, nineteen))
  bad_of OtherLayout is nineteen = absurd (omega (arith, nineteen))

  length_of : (r : PlanError) → IsRefusal why e r → refusal_number r ≡ 100 → why other_length
  length_of BadArgument is hundred = absurd (omega (arith, hundred))
  length_of (Refused error) is hundred = absurd (omega (arith, (within_16 (fault_of error)).1, hundred))
  length_of (Lacks lack) is hundred = absurd (omega (arith, hundred))
  length_of OtherLength is hundred = is
  length_of OtherLayout is hundred = absurd (omega (arith, hundred))

  layout_of : (r : PlanError) → IsRefusal why e r → refusal_number r ≡ 101 → why other_layout
  layout_of BadArgument is number = absurd (omega (arith, number))
  layout_of (Refused error) is number = absurd (omega (arith, (within_16 (fault_of error)).1, number))
  layout_of (Lacks lack) is number = absurd (omega (arith, number))
  layout_of OtherLength is number = absurd (omega (arith, number))
  layout_of OtherLayout is number = is

  -- ---- the result of a call without a plan

  module _ (r : PlanError) (refused : IsRefusal why e r) (answer : ℕ) (is : answer ≡ refusal_number r) where
    pub answer_above : answer ≢ 0
    answer_above zero = omega (arith, zero, is, (numbers r).0)

    pub answer_not_104 : answer ≢ 104
    answer_not_104 number = (numbers r).1 (sym is ∙ number)

    pub answer_not_102 : answer ≢ 102
    answer_not_102 number = (numbers r).2 (sym is ∙ number)

    pub answer_most : (answer ≤ 16) ⊎ ((100 ≤ answer) × (answer ≤ 105))
    answer_most = subst (λ (n : ℕ). (n ≤ 16) ⊎ ((100 ≤ n) × (n ≤ 105))) (sym is) (numbers r).3

    pub answer_bad : answer ≡ 105 → why bad_argument
    answer_bad nineteen = bad_of r refused (sym is ∙ nineteen)

    pub answer_length : answer ≡ 100 → why other_length
    answer_length hundred = length_of r refused (sym is ∙ hundred)

    pub answer_layout : answer ≡ 101 → why other_layout
    answer_layout number = layout_of r refused (sym is ∙ number)

    pub answer_fault : answer ≤ 16 → answer ≢ 15 → IsNumberOf (λ fault. why (a_fault fault)) answer
    answer_fault below other = subst (λ (n : ℕ). IsNumberOf (λ fault. why (a_fault fault)) n) (sym is)
        (fault_of_number r refused (omega (arith, is, below)) (λ fifteen. other (is ∙ fifteen)))

    module _ (old new : Needed) (told : new ≡ needed_after r old) where
      pub answer_lacks : answer ≡ 103 → (¬ HaveRange e (new.from, new.length)) × (new.from + new.length ≤ e.size)
      answer_lacks seventeen =
          subst (λ (n : Needed). (¬ HaveRange e (n.from, n.length)) × (n.from + n.length ≤ e.size)) (sym told) (lacks_of r old refused (sym is ∙ seventeen))

      pub answer_whole : answer ≡ 103 → length e.head.now + length e.tail.now < e.size
      answer_whole seventeen = let two = answer_lacks seventeen in ends_apart (length e.head.now) (length e.tail.now) e.size new.from new.length two.0 two.1

      pub answer_kept : answer ≢ 103 → new ≡ old
      answer_kept other = told ∙ not_lacking r old (λ seventeen. other (is ∙ seventeen))

-- ---- a write that was tried

-- the disk did not fail
pub not_failed : (old new : DiskState) → new.failures ≡ 0 → Rose old new → ⊥
not_failed old new none rose = ⊎_elim (λ more. omega (arith, none, more)) (λ most. omega (arith, none, most)) rose

pub table_refused : (g : GPT) (fault : Fault) (old new : DiskState) (size : ℕ) → old.size ≡ size → new.failures ≡ 0 → RefusesWrite g fault old new → RefusesTable g size fault
table_refused g fault old new size same none (no_memory is) = table_no_memory is
table_refused g fault old new size same none (not_valid is) = table_not_valid is
table_refused g fault old new size same none (no_room valid is) = table_no_room valid (subst (λ (n : ℕ). table_write_fault g n ≡ Some fault) same is)
table_refused g fault old new size same none (disk_failed valid room is) = absurd (not_failed old new none is.1)

-- a new table that was not made
pub new_refused : (count : ℕ) (guid : List ℕ) (ss size : ℕ) (fault : Fault) (old new : DiskState) → old.size ≡ size → new.failures ≡ 0
    → (fault ≡ out_of_memory) ⊎ ((Some fault ≡ fit_fault (new_header_of count guid) ss old.size) ⊎ ((fault ≡ io) × Rose old new))
    → (fault ≡ out_of_memory) ⊎ RefusesNew count guid ss size fault
new_refused count guid ss size fault old new same none is = ⊎_elim (λ memory. inl memory)
    (λ settled. ⊎_elim
    (λ fit. inr (inl (subst (λ (n : ℕ). fit_fault (new_header_of count guid) ss n ≡ Some fault) same (sym fit))))
    (λ failed. absurd (not_failed old new none failed.1))
    settled)
    is
