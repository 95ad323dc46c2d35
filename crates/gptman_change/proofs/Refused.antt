-- Why a read fails.
use Rattle.std.proofs.Common.{◌≡◌, ◌⊎◌, inl, inr, refl, sym, ℕ}
use Rattle.std.specs.Prelude.{Some, None, Result, Ok, Err, IfErr}
use Rattle.gptman.specs.Answers.{answer_of, Refuses}
use Rattle.gptman.specs.Disk.{DiskState, Rose}
use Rattle.gptman.specs.Fault.{fault_of, invalid_signature, out_of_memory}
use Rattle.gptman.specs.Reading.{found_sector_size, reading_of}
use Rattle.gptman.specs.TableReads.{copy_of, IsReadingFault}
use Rattle.gptman.specs.Error.{Error}
use Rattle.gptman.specs.declared.table.GPT.{GPT}
use Rattle.gptman_change.specs.Reads.{RefusesReading}
use Rattle.gptman_change.specs.Reads.RefusesReading.{no_memory, bad_copies, disk_failed}

-- with a given sector size
pub given_refused : (ss : ℕ) (old new : DiskState) (r : Result GPT Error)
    → Rose old new ⊎ (Refuses r out_of_memory ⊎ (answer_of copy_of r ≡ reading_of old.view ss))
    → IfErr r (λ e. IsReadingFault old.view ss (fault_of e)) → IfErr r (λ e. RefusesReading (Some ss) (fault_of e) old new)
given_refused ss old new (Ok g) answer refused = tt
given_refused ss old new (Err e) (inl rose) refused = disk_failed rose ss refl refused
given_refused ss old new (Err e) (inr (inl memory)) refused = no_memory memory
given_refused ss old new (Err e) (inr (inr is)) refused = bad_copies (sym is)

-- with a sector size that is found
pub found_refused : (old new : DiskState) (r : Result GPT Error)
    → Rose old new ⊎ (Refuses r out_of_memory ⊎ (answer_of copy_of r ≡ reading_of old.view (found_sector_size old.view)))
    → IfErr r (λ e. IsReadingFault old.view 512 (fault_of e) ⊎ ((reading_of old.view 512 ≡ Err invalid_signature) × IsReadingFault old.view 4096 (fault_of e)))
    → IfErr r (λ e. RefusesReading None (fault_of e) old new)
found_refused old new (Ok g) answer refused = tt
found_refused old new (Err e) (inl rose) (inl first) = disk_failed rose 512 (inl refl) first
found_refused old new (Err e) (inl rose) (inr second) = disk_failed rose 4096 (inr (refl, second.0)) second.1
found_refused old new (Err e) (inr (inl memory)) refused = no_memory memory
found_refused old new (Err e) (inr (inr is)) refused = bad_copies (sym is)
