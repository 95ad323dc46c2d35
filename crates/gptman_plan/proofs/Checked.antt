-- A check of the disk with zeros between its ends holds for every disk with these ends.
use Rattle.std.proofs.Common.{◌≡◌, ◌≤◌, ⊎_elim, ◌↔◌, ℕ, List, sym, ◌∙◌, ap, subst}
use Rattle.std.specs.Prelude.{Result, Ok, Err, IfOk, IsTrue, replicate}
use Rattle.gptman.specs.Answers.{answer_of}
use Rattle.gptman.specs.Copy.{Copy, copy_of_whole}
use Rattle.gptman.specs.Disk.{DiskState}
use Rattle.gptman.specs.Fault.{Fault}
use Rattle.gptman.specs.Layout.{Holds}
use Rattle.gptman.specs.Reading.{CopyPlace, primary, backup, copy_in}
use Rattle.gptman.specs.Table.{Table}
use Rattle.gptman.specs.declared.copy.WholeCopy.{WholeCopy}
use Rattle.gptman.specs.Error.{Error}
use Rattle.gptman.specs.Copies.{HoldOneTable, IsChecked, IsSeenAs}
use Rattle.gptman.specs.declared.copies.BothCopies.{BothCopies}
use Rattle.gptman_plan.specs.Checking.{AreCopiesKnown, AreFoundIn, IsCheckResult, number_in}
use Rattle.gptman_plan.specs.Ends.{zeroed}
use Rattle.gptman_plan.specs.Reading.{OfEvery}
use Rattle.gptman_plan.specs.declared.records.Check.{Check}
use Rattle.gptman_plan.proofs.Refused.{not_failed}
use Rattle.gptman_plan.specs.declared.ends.Ends.{Ends}

-- ---- on a disk that did not fail

seen : (there : Result Copy Fault) (r : Result WholeCopy Error) (old new : DiskState) → new.failures ≡ 0 → IsSeenAs there old new r → answer_of copy_of_whole r ≡ there
seen there r old new none is = ⊎_elim (λ fails. absurd (not_failed old new none fails.1)) (λ same. same) is

-- the result is that of the disk's bytes
pub found_in : (b : List ℕ) (ss : ℕ) (r : Result BothCopies Error) (old new : DiskState) → old.view ≡ b → new.failures ≡ 0 → IfOk r (IsChecked ss old new) → IfOk r (AreFoundIn b ss)
found_in b ss (Err e) old new view none is = tt
found_in b ss (Ok copies) old new view none is = record {
  at_primary = seen (copy_in primary old.view ss) copies.primary old new none is.at_primary ∙ ap (λ (x : List ℕ). copy_in primary x ss) view;
  at_backup = seen (copy_in backup old.view ss) copies.backup old new none is.at_backup ∙ ap (λ (x : List ℕ). copy_in backup x ss) view;
  same = λ yes. subst (λ (x : List ℕ). HoldOneTable x ss) view (is.same yes).0;
  differ = λ holds. ⊎_elim (λ yes. yes) (λ rose. absurd (not_failed old new none rose)) (is.differ (subst (λ (x : List ℕ). HoldOneTable x ss) (sym view) holds));
}

-- ---- for every disk with these ends

-- both copies are known
pub both_known : (e : Ends) (ss : ℕ) → OfEvery e (λ b. copy_in primary b ss ≡ copy_in primary (zeroed e) ss)
    → OfEvery e (λ b. copy_in backup b ss ≡ copy_in backup (zeroed e) ss) → AreCopiesKnown e ss
both_known e ss first second primary = first
both_known e ss first second backup = second

-- disks with the same copies hold the same tables
held_as : (a b : List ℕ) (ss : ℕ) (side : CopyPlace) (t : Table) → copy_in side a ss ≡ copy_in side b ss → Holds a ss side t → Holds b ss side t
held_as a b ss side t same holds = record { copy = holds.copy; accepted = sym same ∙ holds.accepted; form = holds.form }

one_table_as : (a b : List ℕ) (ss : ℕ) → ((side : CopyPlace) → copy_in side a ss ≡ copy_in side b ss) → HoldOneTable a ss → HoldOneTable b ss
one_table_as a b ss same hold = record {
  table = hold.table;
  at_primary = held_as a b ss primary hold.table (same primary) hold.at_primary;
  at_backup = held_as a b ss backup hold.table (same backup) hold.at_backup;
}

-- and a check has the same result
pub check_known : (start b : List ℕ) (ss : ℕ) (copies : BothCopies) (check : Check) → ((side : CopyPlace) → copy_in side b ss ≡ copy_in side start ss) → AreFoundIn start ss copies
    → check.primary_fault ≡ number_in (answer_of copy_of_whole copies.primary) → check.backup_fault ≡ number_in (answer_of copy_of_whole copies.backup)
    → (IsTrue copies.are_same ↔ (check.are_same ≡ 1)) → check.are_same ≤ 1 → check.reserved ≡ replicate 5 0 → IsCheckResult b ss check
check_known start b ss copies check told found first second flag low zeros = record {
  at_primary = first ∙ ap number_in (found.at_primary ∙ sym (told primary));
  at_backup = second ∙ ap number_in (found.at_backup ∙ sym (told backup));
  same = λ one. one_table_as start b ss (λ side. sym (told side)) (found.same (flag.1 one));
  differ = λ hold. flag.0 (found.differ (one_table_as b start ss told hold));
  flag = low;
  reserved = zeros;
}
