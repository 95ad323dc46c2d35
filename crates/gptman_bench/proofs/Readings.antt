-- The result of a read is held, and a right copy in sector 1 is the result.
use Rattle.std.proofs.Common.{◌≡◌, ◌<◌, ◌^◌, ◌⊎◌, inl, inr, ℕ, List, length, Ok, Err, sym, subst}
use Rattle.std.specs.Prelude.{Result, IfOk}
use Rattle.gptman.specs.Answers.{answer_of, Refuses}
use Rattle.gptman.specs.TableReads.{copy_of, AnswersReading}
use Rattle.gptman.specs.Disk.{OnlyRead, DiskState, Rose}
use Rattle.gptman.specs.Copy.{Copy, CopyAt}
use Rattle.gptman.specs.Fault.{Fault, out_of_memory}
use Rattle.gptman.specs.Layout.{Holds}
use Rattle.gptman.specs.Reading.{copy_in, reading_of, taken_from}
use Rattle.gptman.specs.Stop.{AcceptsRightCopies, HoldsWhatIsRead}
use Rattle.gptman.specs.Table.{table_in, IsHeaderForm}
use Rattle.gptman.specs.declared.codec.entry.GPTPartitionEntry.{GPTPartitionEntry}
use Rattle.gptman.specs.declared.codec.header.GPTHeader.{GPTHeader}
use Rattle.gptman.specs.Error.{Error}
use Rattle.gptman.specs.declared.table.GPT.{GPT}
use Rattle.gptman.proofs.Fallback.{taken_first}

-- a table that is read in the form of its place is held there, unless the disk failed
pub held_read : HoldsWhatIsRead → (ss : ℕ) (r : Result GPT Error) (a b : DiskState) → OnlyRead a b → Rose a b ⊎ (Refuses r out_of_memory ⊎ (answer_of copy_of r ≡ reading_of a.view ss))
    → Rose a b ⊎ IfOk r (λ g. IsHeaderForm (taken_from a.view ss) g.header → Holds b.view ss (taken_from a.view ss) (table_in g))
held_read law ss r a b only (inl rose) = inl rose
held_read law ss (Err e) a b only (inr refused) = inr tt
held_read law ss (Ok g) a b only (inr (inl no_memory)) = absurd no_memory
held_read law ss (Ok g) a b only (inr (inr is)) =
    inr (λ form. subst (λ (view : List ℕ). Holds view ss (taken_from a.view ss) (table_in g)) (sym only.view) (law a.view ss (copy_of g) (sym is) form))

-- a right copy in sector 1 is read
pub right_copy_read : AcceptsRightCopies → (ss : ℕ) (r : Result GPT Error) (a b : DiskState) (h : GPTHeader) (es : List GPTPartitionEntry) → length a.view < 2 ^ 64 → CopyAt a.view ss ss h es
    → AnswersReading (reading_of a.view ss) r a b → AnswersReading (Ok (record { header = h; entries = es })) r a b
unfolding copy_in
right_copy_read law ss r a b h es small stands answers =
    let copy : Copy = record { header = h; entries = es } in
    subst (λ (taken : Result Copy Fault). AnswersReading taken r a b) (taken_first a.view ss copy ((law a.view ss ss h es small).1 stands)) answers
