-- Removing, clearing and putting leave other entries unchanged, and the named ones are put.
use Rattle.std.proofs.Common.{◌≡◌, ◌≢◌, ◌≤◌, ℕ, ◌+◌, ◌-◌, List, [], ◌∷◌, refl, sym, ap, ◌∙◌, subst, arith, zero, suc, IsTrue}
use Rattle.std.specs.Prelude.{Option, Some, None, Result, Ok, Err, All, Bool, true, false, not, get_or, if◌then◌else◌}
use Rattle.std.proofs.lemmas.List.{get_or-set_other, get_or-set_same}
use Rattle.gptman.specs.Coding.{empty_entry}
use Rattle.gptman.specs.Entry.{is_unused, is_used}
use Rattle.gptman.specs.Number.{entry_at, entry_of_number, with_entry, IsNumber}
use Rattle.gptman.specs.Table.{entries_in}
use Rattle.gptman.specs.declared.codec.entry.GPTPartitionEntry.{GPTPartitionEntry}
use Rattle.gptman.specs.declared.table.GPT.{GPT}
use Rattle.gptedit_core.specs.Applying.{cleared, lowest_used, others_fault, others_fault_of, removed_all, removed_one, without_entry, is_blank, ArePut, IsPut}
use Rattle.gptedit_core.specs.Named.{AreThere, IsUnnamed, StaysAs}
use Rattle.gptedit_core.specs.Resolving.{first_numbered}
use Rattle.std.specs.List.{enumerate_from}
use Rattle.gptedit_core.specs.declared.asked.Mode.{Mode}
use Rattle.gptedit_core.specs.declared.asked.Mode.TheVariants.{Add, Change, Become}
use Rattle.gptedit_core.specs.declared.refusal.Refusal.{Refusal}
use Rattle.gptedit_core.specs.declared.refusal.Refusal.TheVariants.{IsUnused, NoEntry}
use Rattle.gptedit_core.specs.declared.resolve.ResolvedPartition.{ResolvedPartition}
use Rattle.gptedit_core.proofs.Resolved.{AreUsed}
use Rattle.gptedit_core.proofs.Steps.{and_then_ok, else_ok}

-- Another entry is unchanged.
pub other_entry : (g : GPT) (i j : ℕ) (e : GPTPartitionEntry) → 1 ≤ i → 1 ≤ j → i ≢ j → entry_at (with_entry g i e) j ≡ entry_at g j
other_entry g i j e low_i low_j differ = get_or-set_other (entries_in g) (i - 1) (j - 1) e empty_entry (λ same. differ (omega (arith, same, low_i, low_j)))

-- The entry itself is the new one.
pub this_entry : (g : GPT) (i : ℕ) (e : GPTPartitionEntry) → IsNumber g i → entry_at (with_entry g i e) i ≡ e
this_entry g i e number = get_or-set_same (entries_in g) (i - 1) e empty_entry (omega (arith, number.0, number.1))

pub put_other : (p : ResolvedPartition) (g next : GPT) (j : ℕ) → IsPut p g next → 1 ≤ j → p.number ≢ j → entry_at next j ≡ entry_at g j
put_other p g next j put low differ =
    subst (λ (m : GPT). entry_at m j ≡ entry_at g j) (sym put.next_is)
    (other_entry g p.number j (record p.entry { starting_lba = put.range.first; ending_lba = put.range.last }) put.number.0 low differ)

-- A used entry is unchanged, since nothing is put over it.
pub put_stays : (p : ResolvedPartition) (g next : GPT) (j : ℕ) → IsPut p g next → 1 ≤ j → ¬ IsTrue (is_unused (entry_at g j)) → entry_at next j ≡ entry_at g j
put_stays p g next j put low used =
    put_other p g next j put low (λ same. used (subst (λ (i : ℕ). IsTrue (is_unused (entry_at g i))) same put.unused))

pub stay : (ps : List ResolvedPartition) (g next : GPT) (j : ℕ) → ArePut ps g next → 1 ≤ j → ¬ IsTrue (is_unused (entry_at g j)) → entry_at next j ≡ entry_at g j
stay [] g next j is low used = ap (λ (m : GPT). entry_at m j) is
stay (p ∷ ps) g next j is low used =
    let first = put_stays p g is.0 j is.1 low used in
    stay ps is.0 next j is.2 low (λ unused. used (subst (λ (e : GPTPartitionEntry). IsTrue (is_unused e)) first unused)) ∙ first

-- An entry whose number no partition has is unchanged.
pub keep : (ps : List ResolvedPartition) (g next : GPT) (j : ℕ) → ArePut ps g next → 1 ≤ j → IsUnnamed j ps → entry_at next j ≡ entry_at g j
keep [] g next j is low unnamed = ap (λ (m : GPT). entry_at m j) is
keep (p ∷ ps) g next j is low unnamed =
    keep ps is.0 next j is.2 low (λ k d below. unnamed (suc k) d (omega (arith, below)))
    ∙ put_other p g is.0 j is.1 low (unnamed 0 p (omega arith))

-- A partition that was put is there at the end.
pub there : (ps : List ResolvedPartition) (g last : GPT) → ArePut ps g last → AreUsed ps → AreThere ps g last
there [] g last is used = tt
there (p ∷ ps) g last is used =
    let put = is.1 in
    let entry : GPTPartitionEntry = record p.entry { starting_lba = put.range.first; ending_lba = put.range.last } in
    let here : entry_at is.0 p.number ≡ entry = subst (λ (m : GPT). entry_at m p.number ≡ entry) (sym put.next_is) (this_entry g p.number entry put.number) in
    let still = stay ps is.0 last p.number is.2 put.number.0 (λ unused. used.0 (subst (λ (e : GPTPartitionEntry). IsTrue (is_unused e)) here unused)) in
    let end : entry_at last p.number ≡ entry = still ∙ here in
    let mid : is.0 ≡ with_entry g p.number (entry_at last p.number) = put.next_is ∙ ap (with_entry g p.number) (sym end) in
    (record { range = put.range; span = put.span; entry = end }, subst (λ (m : GPT). AreThere ps m last) mid (there ps is.0 last is.2 used.1))

-- ---- entries that are cleared or removed first

low_number : (g : GPT) (i : ℕ) (e : GPTPartitionEntry) → entry_of_number g i ≡ Some e → 1 ≤ i
low_number g zero e is = absurd (cc)
low_number g (suc i) e is = omega arith

-- An entry of another number is unchanged if one is cleared,
cleared_step : (i j : ℕ) (g r : GPT) (next : GPT → Result GPT Refusal) (found : Option GPTPartitionEntry) → entry_of_number g i ≡ found
    → ◌≡◌ {A = Result GPT Refusal} (elim found [ None ↦ Err (NoEntry i) | Some e ↦ next (with_entry g i empty_entry) ]) (Ok r) → 1 ≤ j → i ≢ j
    → ((h : GPT) → next h ≡ Ok r → entry_at r j ≡ entry_at h j) → entry_at r j ≡ entry_at g j
cleared_step i j g r next None found is low differ rest = absurd (cc)
cleared_step i j g r next (Some e) found is low differ rest = rest (with_entry g i empty_entry) is ∙ other_entry g i j empty_entry (low_number g i e found) low differ

pub cleared_keep : (ps : List ResolvedPartition) (g r : GPT) (j : ℕ) → cleared ps g ≡ Ok r → 1 ≤ j → IsUnnamed j ps → entry_at r j ≡ entry_at g j
cleared_keep [] g r j is low unnamed = let same : g ≡ r = cc in ap (λ (m : GPT). entry_at m j) (sym same)
cleared_keep (p ∷ ps) g r j is low unnamed =
    cleared_step p.number j g r (cleared ps) (entry_of_number g p.number) refl is low (unnamed 0 p (omega arith))
    (λ h done. cleared_keep ps h r j done low (λ k d below. unnamed (suc k) d (omega (arith, below))))

-- or removed.
removed_step : (i j : ℕ) (g r : GPT) (found : Option GPTPartitionEntry) → entry_of_number g i ≡ found → without_entry i g found ≡ Ok r → 1 ≤ j → i ≢ j
    → entry_at r j ≡ entry_at g j
removed_step i j g r None found is low differ = absurd (cc)
removed_step i j g r (Some e) found is low differ =
    let end = else_ok (is_blank e) (IsUnused i) (with_entry g i empty_entry) r is in
    subst (λ (m : GPT). entry_at m j ≡ entry_at g j) end.1 (other_entry g i j empty_entry (low_number g i e found) low differ)

pub removed_keep : (is : List ℕ) (g r : GPT) (j : ℕ) → removed_all is g ≡ Ok r → 1 ≤ j → All (λ i. i ≢ j) is → entry_at r j ≡ entry_at g j
removed_keep [] g r j done low others = let same : g ≡ r = cc in ap (λ (m : GPT). entry_at m j) (sym same)
removed_keep (i ∷ is) g r j done low others =
    let step = and_then_ok (removed_one i g) (removed_all is) r done in
    removed_keep is step.0 r j step.2 low (λ k d below. others (suc k) d (omega (arith, below)))
    ∙ removed_step i j g step.0 (entry_of_number g i) refl step.1 low (others 0 i (omega arith))

-- All unnamed entries are unused if none is refused.
unused_of : (b : Bool) → not b ≡ false → IsTrue b
unused_of true is = refl
unused_of false is = absurd (cc)

if_none : (b : Bool) (x : ℕ) (o : Option ℕ) → (if b then Some x else o) ≡ None → (b ≡ false) × (o ≡ None)
if_none true x o is = absurd (cc)
if_none false x o is = (refl, is)

none_used : (i : ℕ) (es : List GPTPartitionEntry) (k : ℕ) → first_numbered is_used (enumerate_from i es) ≡ None → IsTrue (is_unused (get_or es k empty_entry))
none_used i [] k is = refl
none_used i (e ∷ es) zero is = unused_of (is_unused e) (if_none (is_used e) i (first_numbered is_used (enumerate_from (i + 1) es)) is).0
none_used i (e ∷ es) (suc k) is = none_used (i + 1) es k (if_none (is_used e) i (first_numbered is_used (enumerate_from (i + 1) es)) is).1

pub others_unused : (h : GPT) (j : ℕ) (found : Option ℕ) → lowest_used h ≡ found → others_fault_of (Become false) found ≡ None → IsTrue (is_unused (entry_at h j))
others_unused h j None found is = none_used 1 (entries_in h) (j - 1) found
others_unused h j (Some i) found is = absurd (cc)

-- An equal entry fulfils StaysAs.
pub stays_as : (mode : Mode) (e : GPTPartitionEntry) (h : GPT) (j : ℕ) (after : GPTPartitionEntry) → entry_at h j ≡ e → after ≡ e → others_fault mode h ≡ None → StaysAs mode e after
stays_as Add e h j after before same none = same
stays_as Change e h j after before same none = same
stays_as (Become true) e h j after before same none = same
stays_as (Become false) e h j after before same none =
    (same, subst (λ (x : GPTPartitionEntry). IsTrue (is_unused x)) before (others_unused h j (lowest_used h) refl none))
