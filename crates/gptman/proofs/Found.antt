-- A copy that was found on an unchanged disk, or its fault,
use Rattle.std.proofs.Common.{◌≡◌, ◌⊎◌, inl, inr, ◌∙◌}
use Rattle.std.specs.Prelude.{Result}
use Rattle.gptman.specs.Answers.{answer_of, Fails}
use Rattle.gptman.specs.Copy.{Copy}
use Rattle.gptman_disk.specs.Disk.{DiskState, Keeps}
use Rattle.gptman_disk.specs.Fault.{Fault}
use Rattle.gptman_disk.specs.declared.error.Error.{Error}
use Rattle.gptman.proofs.Runs.{rose_before, rose_since}

-- after calls that only read,
pub found_since : {X : Type 0} (f : X → Copy) (r : Result X Error) (old mid new : DiskState) (there here : Result Copy Fault) → Keeps old mid → here ≡ there
    → Fails r mid new ⊎ (answer_of f r ≡ here) → Fails r old new ⊎ (answer_of f r ≡ there)
found_since f r old mid new there here keeps same (inl fails) = inl (fails.0, rose_since old mid new keeps fails.1)
found_since f r old mid new there here keeps same (inr is) = inr (is ∙ same)

-- and before others.
pub found_before : {X : Type 0} (f : X → Copy) (r : Result X Error) (old mid new : DiskState) (there : Result Copy Fault) → Keeps mid new
    → Fails r old mid ⊎ (answer_of f r ≡ there) → Fails r old new ⊎ (answer_of f r ≡ there)
found_before f r old mid new there keeps (inl fails) = inl (fails.0, rose_before old mid new fails.1 keeps)
found_before f r old mid new there keeps (inr is) = inr is
