-- The entry at a byte.
use Rattle.std.proofs.Common.{◌≡◌, ◌≤◌, ◌<◌, ◌⊎◌, inl, inr, ℕ, ◌+◌, true, false, List, length, Result, Ok, Err, nat_le, arith, refl, ap, ◌∙◌}
use Rattle.std.specs.Prelude.{IfOk, IfErr}
use Rattle.gptman_disk.specs.Bytes.{part}
use Rattle.gptman.specs.Answers.{answer_of, Refuses}
use Rattle.gptman.specs.Coding.{HasReadName, IsEntryCoding, entry_of}
use Rattle.gptman.specs.Copy.{entry_result}
use Rattle.gptman_disk.specs.Fault.{fault_of, io, out_of_memory}
use Rattle.gptman.specs.declared.codec.entry.GPTPartitionEntry.{GPTPartitionEntry}
use Rattle.gptman_disk.specs.declared.error.Error.{Error}
use Rattle.gptman.proofs.EntryBytes.{entry_is}

-- The list ends before it.
pub entry_short : (b : List ℕ) (p : ℕ) → length b < p + 128 → entry_result b p ≡ Err io
unfolding entry_result
entry_short b p short = let past : nat_le (p + 128) (length b) ≡ false = grind arith in rw past refl

-- The result of decoding its bytes.
pub entry_decoded : (b : List ℕ) (p : ℕ) (r : Result GPTPartitionEntry Error) (x : List ℕ) → p + 128 ≤ length b → x ≡ part b p 128
    → IfOk r (λ e. IsEntryCoding e x) → IfOk r HasReadName → IfErr r (λ e. fault_of e ≡ out_of_memory)
    → Refuses r out_of_memory ⊎ (answer_of (λ e. e) r ≡ entry_result b p)
unfolding entry_result
entry_decoded b p (Err e) x inside is coding name refused = inl refused
entry_decoded b p (Ok e) x inside is coding name refused =
    let within : nat_le (p + 128) (length b) ≡ true = grind arith in
    inr (rw within (ap Ok (entry_is e x coding name ∙ ap entry_of is)))
