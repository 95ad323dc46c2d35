-- Signatures that are cleared because they overlap no copy.
use Rattle.std.proofs.Common.{true, ◌≡◌, ◌⊎◌, ⊎_elim, ◌∙◌, ◌+◌, ℕ, zero, suc, List, [], ◌∷◌, ◌++◌, drop, get_or, inl, inr, sym, subst, arith, Option}
use Rattle.gptman.specs.Disk.{DiskState, IsSound, Outside, Reads, Writes}
use Rattle.gptman.specs.Ranges.{Inside}
use Rattle.gptman.specs.declared.codec.header.GPTHeader.{GPTHeader}
use Rattle.gptman.proofs.Ranges.{within_left, within_none, within_right, within_self}
use Rattle.gptman.proofs.Runs.{wrote_not, wrote_then, wrote_wider}
use Rattle.gptedit_look.proofs.Pieces.{inside_of_both}
use Rattle.gptedit_look.specs.Guard.{IsIn}
use Rattle.gptedit_look.specs.Wiped.{AreZeros, IsBeside, IsCleared, IsOfBeside, IsOfOther, WritesOnly}
use Rattle.gptedit_look.specs.declared.signatures.Signature.{Signature}
use Rattle.gptedit_look.proofs.Spared.{inside_or_outside}

-- nothing is written yet
pub only_not : (P : ℕ → Type 0) (a : DiskState) → (a.is_honest ≡ true → IsSound a) → WritesOnly P a a
only_not P a sound = record { ranges = []; within = λ k no. absurd no; wrote = λ honest. wrote_not [] a honest (sound honest) }

-- one range
pub only_one : (P : ℕ → Type 0) (start n : ℕ) (a b : DiskState) → Writes ((start, n) ∷ []) a b → ((k : ℕ) → IsIn start n k → P k) → WritesOnly P a b
only_one P start n a b wrote may = record { ranges = (start, n) ∷ []; within = λ k h. ⊎_elim (λ here. may k here) (λ no. absurd no) h; wrote = wrote }

-- one signature
pub only_signature : (Q : Type 0) (s : Signature) (start n : ℕ) (a b : DiskState) → Q → start ≡ s.at → n ≡ 8 → Writes ((start, n) ∷ []) a b
    → WritesOnly (λ k. Q × IsIn s.at 8 k) a b
only_signature Q s start n a b is at long wrote =
    only_one (λ k. Q × IsIn s.at 8 k) start n a b wrote (λ k here. (is, (omega (arith, at, here.0), omega (arith, at, long, here.1))))

-- two sets of bytes
pub only_both : (P Q : ℕ → Type 0) (a b c : DiskState) → ((k : ℕ) → Q k → P k) → WritesOnly P a b → WritesOnly Q b c → WritesOnly P a c
only_both P Q a b c to first next = record {
  ranges = next.ranges ++ first.ranges;
  within = λ k h. ⊎_elim (λ x. to k (next.within k x)) (λ x. first.within k x) ((inside_of_both next.ranges first.ranges k).0 h);
  wrote = λ honest.
      let ab = first.wrote honest in
      wrote_then (within_left next.ranges first.ranges) (wrote_wider (within_right next.ranges first.ranges) ab) (next.wrote ab.honest);
}

-- reads before the write
pub only_after : (P : ℕ → Type 0) (a b c : DiskState) → Reads a b → WritesOnly P b c → WritesOnly P a c
only_after P a b c reads next = record {
  ranges = next.ranges;
  within = next.within;
  wrote = λ honest. let ab = reads.only honest in wrote_then (within_self next.ranges) (wrote_wider within_none ab.wrote) (next.wrote ab.wrote.honest);
}

-- the same for equal sets of bytes
pub only_as : (P Q : ℕ → Type 0) (a b : DiskState) → ((k : ℕ) → P k → Q k) → WritesOnly P a b → WritesOnly Q a b
only_as P Q a b to first = record { ranges = first.ranges; within = λ k h. to k (first.within k h); wrote = first.wrote }

-- a signature in the rest of a list is in the list
pub beside_drop : (primary backup : Option GPTHeader) (ss i : ℕ) (signatures : List Signature) (k : ℕ)
    → IsOfBeside primary backup ss k (drop i signatures) → IsOfBeside primary backup ss k signatures
beside_drop primary backup ss zero signatures k h = h
beside_drop primary backup ss (suc i) [] k h = h
beside_drop primary backup ss (suc i) (s ∷ signatures) k h = inr (beside_drop primary backup ss i signatures k h)

-- a cleared byte is in one of the signatures
pub beside_may : (primary backup : Option GPTHeader) (ss i : ℕ) (signatures more : List Signature) (s : Signature) → drop i signatures ≡ s ∷ more
    → (k : ℕ) → IsBeside primary backup ss s × IsIn s.at 8 k → IsOfBeside primary backup ss k signatures
beside_may primary backup ss i signatures more s rest k here =
    beside_drop primary backup ss i signatures k (subst (λ (xs : List Signature). IsOfBeside primary backup ss k xs) (sym rest) (inl here))

-- one more signature
pub beside_then : {a b c : DiskState} (primary backup : Option GPTHeader) (ss i : ℕ) (signatures : List Signature) (s : Signature)
    → drop i signatures ≡ s ∷ drop (i + 1) signatures → WritesOnly (λ k. IsBeside primary backup ss s × IsIn s.at 8 k) b c
    → WritesOnly (λ k. IsOfBeside primary backup ss k signatures) a b → WritesOnly (λ k. IsOfBeside primary backup ss k signatures) a c
beside_then {a} {b} {c} primary backup ss i signatures s rest next first =
    only_both (λ k. IsOfBeside primary backup ss k signatures) (λ k. IsBeside primary backup ss s × IsIn s.at 8 k) a b c
    (beside_may primary backup ss i signatures (drop (i + 1) signatures) s rest) first next

-- each has another sector size
pub other_of : (primary backup : Option GPTHeader) (ss : ℕ) (signatures : List Signature) (k : ℕ) → IsOfBeside primary backup ss k signatures → IsOfOther ss k signatures
other_of primary backup ss [] k h = h
other_of primary backup ss (s ∷ signatures) k h = ⊎_elim (λ x. inl (x.0.other, x.1)) (λ x. inr (other_of primary backup ss signatures k x)) h

-- reads only
pub only_read : (P : ℕ → Type 0) (a b : DiskState) → Reads a b → WritesOnly P a b
only_read P a b reads = record { ranges = []; within = λ k no. absurd no; wrote = λ honest. (reads.only honest).wrote }

-- the zeros of one signature
pub zeros_signature : (s : Signature) (start n : ℕ) (b : List ℕ) → start ≡ s.at → n ≡ 8 → AreZeros start n b → AreZeros s.at 8 b
zeros_signature s start n b at long zeros k here = zeros k (omega (arith, at, here.0), omega (arith, at, long, here.1))

-- zeros stay zero if each changed byte becomes zero
pub zero_kept : (P : ℕ → Type 0) (a b : DiskState) → a.is_honest ≡ true → WritesOnly P a b → ((k : ℕ) → P k → get_or b.view k 0 ≡ 0)
    → (k : ℕ) → get_or a.view k 0 ≡ 0 → get_or b.view k 0 ≡ 0
zero_kept P a b honest only zeros k was =
    ⊎_elim (λ (here : Inside only.ranges k). zeros k (only.within k here))
    (λ (out : Outside only.ranges k). (only.wrote honest).view.same k out ∙ was) (inside_or_outside only.ranges k)

-- each signature to be cleared is zero, except those in the rest of the list
abbrev pub AreGone : Option GPTHeader → Option GPTHeader → ℕ → List Signature → List Signature → List ℕ → Type 0
AreGone primary backup ss signatures rest b = (k : ℕ) → IsOfBeside primary backup ss k signatures → IsOfBeside primary backup ss k rest ⊎ (get_or b k 0 ≡ 0)

-- one more signature
pub gone_more : (primary backup : Option GPTHeader) (ss : ℕ) (signatures more rest : List Signature) (s : Signature) (a b : DiskState) → rest ≡ s ∷ more
    → a.is_honest ≡ true → WritesOnly (λ k. IsBeside primary backup ss s × IsIn s.at 8 k) a b → (IsBeside primary backup ss s → AreZeros s.at 8 b.view)
    → AreGone primary backup ss signatures rest a.view → AreGone primary backup ss signatures more b.view
gone_more primary backup ss signatures more rest s a b is honest only zeros gone k one =
    let here : (j : ℕ) → IsBeside primary backup ss s × IsIn s.at 8 j → get_or b.view j 0 ≡ 0 = λ j x. zeros x.0 j x.1 in
    ⊎_elim
    (λ left. let there : IsOfBeside primary backup ss k (s ∷ more) = subst (λ (xs : List Signature). IsOfBeside primary backup ss k xs) is left in
    ⊎_elim (λ x. inr (here k x)) (λ x. inl x) there)
    (λ was. inr (zero_kept (λ j. IsBeside primary backup ss s × IsIn s.at 8 j) a b honest only here k was)) (gone k one)

-- the cleared bytes, for equal headers
pub cleared_as : (one two primary backup : Option GPTHeader) (ss : ℕ) (xs ys : List Signature) (disk : DiskState) → one ≡ primary → two ≡ backup → xs ≡ ys
    → IsCleared (λ k. IsOfBeside one two ss k xs) disk → IsCleared (λ k. IsOfBeside primary backup ss k ys) disk
cleared_as one two primary backup ss xs ys disk first second same cleared =
    subst (λ (x : Option GPTHeader). IsCleared (λ k. IsOfBeside x backup ss k ys) disk) first
    (subst (λ (x : Option GPTHeader). IsCleared (λ k. IsOfBeside one x ss k ys) disk) second
    (subst (λ (zs : List Signature). IsCleared (λ k. IsOfBeside one two ss k zs) disk) same cleared))

-- the changed bytes, for equal headers
pub only_named : (one two primary backup : Option GPTHeader) (ss : ℕ) (signatures : List Signature) (a b : DiskState) → one ≡ primary → two ≡ backup
    → WritesOnly (λ k. IsOfBeside one two ss k signatures) a b → WritesOnly (λ k. IsOfBeside primary backup ss k signatures) a b
only_named one two primary backup ss signatures a b first second only =
    subst (λ (x : Option GPTHeader). WritesOnly (λ k. IsOfBeside x backup ss k signatures) a b) first
    (subst (λ (x : Option GPTHeader). WritesOnly (λ k. IsOfBeside one x ss k signatures) a b) second only)
