-- Sequences of calls that only read.
use Rattle.std.proofs.Common.{◌≡◌, ◌⊎◌, ⊎_elim, ◌+◌, ◌<◌, inl, inr, ℕ, true, length, Result, Err, arith, refl, sym, ◌∙◌, []}
use Rattle.gptman.specs.Answers.{answer_of, Fails, IsFailure, Refuses}
use Rattle.gptman_disk.specs.Disk.{DiskState, HasFailedOnce, IsSound, Keeps, OnlyRead, PassesEnd, Reads}
use Rattle.gptman_disk.specs.Fault.{Fault, io, out_of_memory}
use Rattle.gptman_disk.specs.declared.error.Error.{Error}
use Rattle.gptman_disk.proofs.Ranges.{within_none}
use Rattle.gptman.proofs.Runs.{keeps_then, rose_once, rose_since, wrote_not, wrote_then}

-- Before the first call.
pub reads_not : (a : DiskState) → a.is_honest ≡ true → IsSound a → OnlyRead a a
reads_not a honest sound = record { view = refl; pending = refl; wrote = wrote_not [] a honest sound }

-- One more call.
pub reads_then : {a b c : DiskState} → OnlyRead a b → OnlyRead b c → OnlyRead a c
reads_then ab bc = record {
  view = bc.view ∙ ab.view;
  pending = bc.pending ∙ ab.pending;
  wrote = wrote_then within_none ab.wrote bc.wrote;
}

-- One call after another.
pub both_read : {a b c : DiskState} → Reads a b → Reads b c → Reads a c
both_read ab bc = record {
  keeps = keeps_then ab.keeps bc.keeps;
  only = λ honest. let first = ab.only honest in reads_then first (bc.only first.wrote.honest);
}

-- A read that fails: the disk failed, or ends before, as the result says.
pub read_refused : {A : Type 0} (answer : Result A Fault) (old new : DiskState) (n : ℕ) → length old.view ≡ old.size
    → (length old.view < old.position + n → answer ≡ Err io) → HasFailedOnce old new ⊎ PassesEnd old n → IsFailure io old new ⊎ (Err io ≡ answer)
read_refused answer old new n size short cause = ⊎_elim (λ once. inl (refl, rose_once old new once)) (λ past. inr (sym (short (omega (arith, past, size))))) cause

-- A result in memory after calls that only read.
pub answer_since : {T A : Type 0} (f : T → A) (r : Result T Error) (old mid new : DiskState) (here there : Result A Fault) → Keeps old mid → here ≡ there
    → Fails r mid new ⊎ (Refuses r out_of_memory ⊎ (answer_of f r ≡ here)) → Fails r old new ⊎ (Refuses r out_of_memory ⊎ (answer_of f r ≡ there))
answer_since f r old mid new here there keeps same (inl fails) = inl (fails.0, rose_since old mid new keeps fails.1)
answer_since f r old mid new here there keeps same (inr (inl memory)) = inr (inl memory)
answer_since f r old mid new here there keeps same (inr (inr is)) = inr (inr (is ∙ same))
