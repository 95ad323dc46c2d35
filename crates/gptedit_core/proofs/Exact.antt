-- Only a partition that gets the rest ends elsewhere than where it was put.
use Rattle.std.proofs.Common.{◌≡◌, ◌≢◌, ◌≤◌, ℕ, List, [], ◌∷◌, sym, subst, arith, zero, suc, IsTrue}
use Rattle.gptman.specs.Entry.{is_unused}
use Rattle.gptman.specs.Number.{entry_at}
use Rattle.gptman.specs.declared.codec.entry.GPTPartitionEntry.{GPTPartitionEntry}
use Rattle.gptman.specs.declared.table.GPT.{GPT}
use Rattle.gptedit_core.specs.Applying.{rest_numbers, ArePut, IsApplied}
use Rattle.gptedit_core.specs.Named.{IsAmong, IsUnnamed}
use Rattle.gptedit_core.specs.declared.asked.Asked.{Asked}
use Rattle.gptedit_core.specs.declared.asked.RequestedLayout.{RequestedLayout}
use Rattle.gptedit_core.specs.declared.resolve.ResolvedPartition.{ResolvedPartition}
use Rattle.gptedit_core.proofs.Applied.{put_stays, this_entry}
use Rattle.gptedit_core.proofs.Placed.{all_exact, last_exact, AreExact, DifferInNumber}
use Rattle.gptedit_core.proofs.Resolved.{used_all, AreUsed}

pub unnamed_more : (j : ℕ) (p : ResolvedPartition) (ps : List ResolvedPartition) → p.number ≢ j → IsUnnamed j ps → IsUnnamed j (p ∷ ps)
unnamed_more j p ps differ rest zero q below = differ
unnamed_more j p ps differ rest (suc k) q below = rest k q (omega (arith, below))

-- No partition that was put has the number of a used entry.
unnamed_where : (ps : List ResolvedPartition) (g last : GPT) (j : ℕ) → ArePut ps g last → 1 ≤ j → (¬ IsTrue (is_unused (entry_at g j))) → IsUnnamed j ps
unnamed_where [] g last j put low used = λ k d below. absurd (omega (arith, below))
unnamed_where (p ∷ ps) g last j put low used =
    let kept = put_stays p g put.0 j put.1 low used in
    unnamed_more j p ps (λ same. used (subst (λ (n : ℕ). IsTrue (is_unused (entry_at g n))) same put.1.unused))
    (unnamed_where ps put.0 last j put.2 low (λ unused. used (subst (λ (e : GPTPartitionEntry). IsTrue (is_unused e)) kept unused)))

pub differ_put : (ps : List ResolvedPartition) (g last : GPT) → ArePut ps g last → AreUsed ps → DifferInNumber ps
differ_put [] g last put used = tt
differ_put (p ∷ ps) g last put used =
    let entry : GPTPartitionEntry = record p.entry { starting_lba = put.1.range.first; ending_lba = put.1.range.last } in
    let here : entry_at put.0 p.number ≡ entry = subst (λ (m : GPT). entry_at m p.number ≡ entry) (sym put.1.next_is) (this_entry g p.number entry put.1.number) in
    (unnamed_where ps put.0 last p.number put.2 put.1.number.0 (λ unused. used.0 (subst (λ (e : GPTPartitionEntry). IsTrue (is_unused e)) here unused)), differ_put ps put.0 last put.2 used.1)

-- What holds for the numbers of those that do not get the rest holds since they are above zero.
exact_put : (P Q : ℕ → Type 0) (asked : List Asked) (ps : List ResolvedPartition) (g last : GPT) → ArePut ps g last → ((j : ℕ) → 1 ≤ j → P j → Q j) → AreExact P asked ps → AreExact Q asked ps
exact_put P Q [] ps g last put turn all = tt
exact_put P Q (a ∷ asked) [] g last put turn all = tt
exact_put P Q (a ∷ asked) (p ∷ ps) g last put turn all = (λ none. turn p.number put.1.number.0 (all.0 none), exact_put P Q asked ps put.0 last put.2 turn all.1)

pub exact : (layout : RequestedLayout) (randoms : List (List ℕ)) (g next : GPT) (is : IsApplied layout randoms g next)
    → AreExact (λ j. entry_at next j ≡ entry_at is.placed j) layout.asked.items is.partitions
exact layout randoms g next is =
    let used = used_all g layout.mode layout.asked.items randoms is.partitions is.asked in
    exact_put (λ j. ¬ IsAmong j (rest_numbers layout.asked.items is.partitions)) (λ j. entry_at next j ≡ entry_at is.placed j) layout.asked.items is.partitions is.free is.placed is.put
    (λ j low other. last_exact layout randoms g next is j low other) (all_exact layout.asked.items is.partitions (differ_put is.partitions is.free is.placed is.put used))
