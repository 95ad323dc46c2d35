use Rattle.std.proofs.Common.{◌≡◌, ℕ, ◌+◌, ◌≤◌, ◌<◌, List, [], ◌∷◌, ◌++◌, length, take, true, false, sym, ap, ◌∙◌, subst, arith, get_or}
use Rattle.std.proofs.lemmas.List.{take_all, length_push}
use Rattle.std.specs.Int.{IsGcd}
use Rattle.gptman.specs.Entry.{is_used}
use Rattle.gptman.specs.declared.codec.entry.GPTPartitionEntry.{GPTPartitionEntry}
use Rattle.gptman.specs.Alignment.{used_starts}
use Rattle.gptman.proofs.CommonDivisor.{IsGreatestCommonDivisor, common_more, starts_used, starts_unused, alignment_zero, alignment_of_one, alignment_other}
use Rattle.gptman.proofs.table.align.find_alignment.Goals as goal
use Rattle.gptman.proofs.table.align.find_alignment.Goals.{then-is_used, else-is_used, else-count-eq1-via-then-count-eq1+else-common-first_usable_lba, else-count-eq1-via-else-count-eq1}

-- The invariant of the loop over the entries.
abbrev Counted : List ℕ → ℕ → ℕ → ℕ → Type 0
Counted starts common count i = IsGreatestCommonDivisor starts common × (count ≡ length starts) × (count ≤ i)

-- At the end it covers all entries.
whole : (es : List GPTPartitionEntry) (i common : ℕ) → length es ≤ i → IsGreatestCommonDivisor (used_starts (take i es)) common → IsGreatestCommonDivisor (used_starts es) common
whole es i common h c = subst (λ (l : List GPTPartitionEntry). IsGreatestCommonDivisor (used_starts l) common) (take_all i es h) c

count_all : (es : List GPTPartitionEntry) (i count : ℕ) → length es ≤ i → count ≡ length (used_starts (take i es)) → count ≡ length (used_starts es)
count_all es i count h e = subst (λ (l : List GPTPartitionEntry). count ≡ length (used_starts l)) (take_all i es h) e

-- A used entry.
used_more : (es : List GPTPartitionEntry) (i : ℕ) (d : GPTPartitionEntry) (common count new g n : ℕ) → i < length es → Counted (used_starts (take i es)) common count i → is_used (get_or es i d) ≡ true → IsGcd common (get_or es i d).starting_lba new → g ≡ new → n ≡ count + 1 → Counted (used_starts (take (i + 1) es)) g n (i + 1)
used_more es i d common count new g n h inv used gcd is more =
    let e = starts_used es i d h used in
    let l : length (used_starts (take i es) ++ (get_or es i d).starting_lba ∷ []) ≡ length (used_starts (take i es)) + 1 = length_push (used_starts (take i es)) (get_or es i d).starting_lba in
    let now = inv.1 in let le = inv.2 in
    subst (λ (starts : List ℕ). Counted starts g n (i + 1)) (sym e)
    (subst (λ (g : ℕ). IsGreatestCommonDivisor (used_starts (take i es) ++ (get_or es i d).starting_lba ∷ []) g) (sym is) (common_more (used_starts (take i es)) common (get_or es i d).starting_lba new inv.0 gcd), omega arith, omega arith)

-- An unused entry.
unused_more : (es : List GPTPartitionEntry) (i : ℕ) (d : GPTPartitionEntry) (common count g n : ℕ) → i < length es → Counted (used_starts (take i es)) common count i → is_used (get_or es i d) ≡ false → g ≡ common → n ≡ count → Counted (used_starts (take (i + 1) es)) g n (i + 1)
unused_more es i d common count g n h inv unused is same =
    let now = inv.1 in let le = inv.2 in
    subst (λ (starts : List ℕ). Counted starts g n (i + 1)) (sym (starts_unused es i d h unused))
    (subst (λ (g : ℕ). IsGreatestCommonDivisor (used_starts (take i es)) g) (sym is) inv.0, omega arith, omega arith)

pub loop-entry-preserved : goal.loop-entry-preserved
loop-entry-preserved c =
    let es = c.args.entries.now in
    let i = c.loop-entry.entry-index in
    let item = c.entry-item.result in
    elim c.if-is_used.branch [
      | then-is_used w ↦
          used_more es i item c.loop-entry.common c.loop-entry.count w.gcd-common.result c.if-is_used.common c.if-is_used.count c.loop-entry-test.true c.loop-entry.invariant
          (ap is_used (sym c.entry-item.is) ∙ sym c.is_used.ensures ∙ w.if-is_used.true)
          (subst (λ (e : GPTPartitionEntry). IsGcd c.loop-entry.common e.starting_lba w.gcd-common.result) c.entry-item.is w.gcd-common.ensures) w.common-is w.count-is
      | else-is_used w ↦
          unused_more es i item c.loop-entry.common c.loop-entry.count c.if-is_used.common c.if-is_used.count c.loop-entry-test.true c.loop-entry.invariant
          (ap is_used (sym c.entry-item.is) ∙ sym c.is_used.ensures ∙ w.if-is_used.false) w.common-is w.count-is
    ]

pub returns-then-common-eq0 : goal.returns-then-common-eq0
returns-then-common-eq0 c =
    let count = count_all c.args.entries.now c.loop-entry.entry-index c.loop-entry.count (omega arith) c.loop-entry.invariant.1 in
    alignment_zero c.args.first_usable_lba (used_starts c.args.entries.now) c.loop-entry.common
    (whole c.args.entries.now c.loop-entry.entry-index c.loop-entry.common (omega arith) c.loop-entry.invariant.0) c.if-common-eq0.true (omega arith)

pub returns-then-common-first_usable_lba : goal.returns-then-common-first_usable_lba
returns-then-common-first_usable_lba c =
    let count = count_all c.args.entries.now c.loop-entry.entry-index c.loop-entry.count (omega arith) c.loop-entry.invariant.1 in
    alignment_of_one c.args.first_usable_lba (used_starts c.args.entries.now) c.loop-entry.common
    (whole c.args.entries.now c.loop-entry.entry-index c.loop-entry.common (omega arith) c.loop-entry.invariant.0) (omega arith) (omega arith)

pub returns-else-count-eq1 : goal.returns-else-count-eq1
returns-else-count-eq1 c =
    let count = count_all c.args.entries.now c.loop-entry.entry-index c.loop-entry.count (omega arith) c.loop-entry.invariant.1 in
    alignment_other c.args.first_usable_lba (used_starts c.args.entries.now) c.loop-entry.common c.capped_divisor.result
    (whole c.args.entries.now c.loop-entry.entry-index c.loop-entry.common (omega arith) c.loop-entry.invariant.0) (omega arith) (omega arith)
    (λ one same. elim c.else-count-eq1.branch [
      | else-count-eq1-via-then-count-eq1+else-common-first_usable_lba w ↦ omega arith
      | else-count-eq1-via-else-count-eq1 w ↦ omega arith
    ]) c.capped_divisor.ensures
