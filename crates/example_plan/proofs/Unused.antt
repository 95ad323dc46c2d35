-- The first unused one of the numbered entries.
use Rattle.std.proofs.Common.{◌≡◌, ℕ, ◌+◌, ◌-◌, ◌<◌, List, length, get_or, sym, ap, ◌∙◌, subst, arith, IsTrue}
use Rattle.std.proofs.lemmas.List.FromFn.{get_or-enumerate_from}
use Rattle.std.specs.Prelude.{Option, None, Some, IfNone}
use Rattle.std.specs.List.{enumerate_from, AllWithin, HoldsAt}
use Rattle.gptman.specs.Coding.{empty_entry}
use Rattle.gptman.specs.Entry.{is_unused, is_used}
use Rattle.gptman.specs.Table.{entries_in}
use Rattle.gptman.proofs.Numbering.{length_numbered}
use Rattle.gptman.specs.declared.codec.entry.GPTPartitionEntry.{GPTPartitionEntry}
use Rattle.gptman.specs.declared.table.GPT.{GPT}
use Rattle.example_plan.specs.Adding.{AreAllUsed, IsFirstUnused}

pub first_numbered : (g : GPT) (p : ℕ × GPTPartitionEntry) (i : ℕ) → IsTrue (is_unused p.1) → i < length (enumerate_from 1 (entries_in g))
    → HoldsAt (λ y. y ≡ p) (enumerate_from 1 (entries_in g)) i → AllWithin (λ y. IsTrue (is_used y.1)) (enumerate_from 1 (entries_in g)) 0 i
    → IsFirstUnused g p.0
first_numbered g p i unused within here before =
    let es : List GPTPartitionEntry = entries_in g in
    let none : ℕ × GPTPartitionEntry = (0, empty_entry) in
    let long : length (enumerate_from 1 es) ≡ length es = length_numbered 1 es in
    let at : (1 + i, get_or es i empty_entry) ≡ p = sym (get_or-enumerate_from 1 es i none (omega (arith, long, within))) ∙ here none in
    let number : 1 + i ≡ p.0 = ap (λ (q : ℕ × GPTPartitionEntry). q.0) at in
    let index : p.0 - 1 ≡ i = omega (arith, number) in
    record {
      is_number = (omega (arith, number), omega (arith, number, long, within));
      unused = subst (λ (e : GPTPartitionEntry). IsTrue (is_unused e))
          (sym (ap (λ (k : ℕ). get_or es k empty_entry) index ∙ ap (λ (q : ℕ × GPTPartitionEntry). q.1) at)) unused;
      earlier = λ k low below. subst (λ (q : ℕ × GPTPartitionEntry). IsTrue (is_used q.1))
          (get_or-enumerate_from 1 es (k - 1) none (omega (arith, number, long, within, low, below)))
          (before (k - 1) none (omega arith) (omega (arith, number, low, below)));
    }

pub all_numbered : (g : GPT) → AllWithin (λ y. IsTrue (is_used y.1)) (enumerate_from 1 (entries_in g)) 0 (length (enumerate_from 1 (entries_in g))) → AreAllUsed g
all_numbered g all = λ k d below.
    let es : List GPTPartitionEntry = entries_in g in
    let long : length (enumerate_from 1 es) ≡ length es = length_numbered 1 es in
    subst (λ (q : ℕ × GPTPartitionEntry). IsTrue (is_used q.1)) (get_or-enumerate_from 1 es k (0, d) below)
    (all k (0, d) (omega arith) (omega (arith, long, below)))

pub if_none_of : {T P : Type 0} (r : Option T) → P → IfNone r P
if_none_of None p = p
if_none_of (Some x) p = tt
