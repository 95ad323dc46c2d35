-- The alignment of a table that was read is above 0.
use Rattle.std.proofs.Common.{◌<◌, ℕ, List, inl, inr, arith}
use Rattle.std.specs.Prelude.{Result, Ok, Err, IfOk}
use Rattle.std.proofs.lemmas.Bool.Decides.{eqb_tells}
use Rattle.gptman.specs.Alignment.{IsAlignment}
use Rattle.gptman.specs.Table.{entries_in}
use Rattle.gptman.specs.TableReads.{IsAsRead}
use Rattle.gptman.specs.declared.codec.entry.GPTPartitionEntry.{GPTPartitionEntry}
use Rattle.gptman.specs.declared.codec.header.GPTHeader.{GPTHeader}
use Rattle.gptman.specs.Error.{Error}
use Rattle.gptman.specs.declared.table.GPT.{GPT}

align_above : (h : GPTHeader) (es : List GPTPartitionEntry) (a : ℕ) → IsAlignment h es a → 0 < a
align_above h es a is = elim (eqb_tells a 0) as (λ _. 0 < a) [
  | inl zero ↦
      let none = zero.1 in
      absurd (omega (
        arith,
        none,
        (is.other (λ e. absurd (omega (arith, none, is.none e))) (λ e. absurd (omega (arith, none, is.of_one e)))
            (λ all. absurd (omega (arith, none, is.zero (λ e. absurd (omega (arith, none, is.none e))) all)))).low,
      ))
  | inr some ↦ omega (arith, some.1)
]

pub read_aligned : (r : Result GPT Error) → IfOk r IsAsRead → IfOk r (λ g. 0 < g.align)
read_aligned (Ok g) value = align_above g.header (entries_in g) g.align value.align
read_aligned (Err e) value = tt
