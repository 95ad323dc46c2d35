-- The run of free sectors that contains a sector, and the longest run.
use Rattle.std.proofs.Common.{◌≡◌, ◌<◌, ◌≤◌, ℕ, ◌+◌, ◌-◌, ◌%◌, max, List, arith, subst, sym}
use Rattle.std.specs.Prelude.{All, Contains}
use Rattle.std.proofs.lemmas.List.Elements.{All-contains, All-map}
use Rattle.gptman.specs.Place.{AreSlots, HasNoPlace, HasNoSlot, IsAlignedSlot, IsBestPlace, IsMaximumSize}
use Rattle.gptedit_core.specs.Placing.{HasNoRunWith, HasSector, IsLongestRun, IsRunWith}
use Rattle.gptedit_core.specs.Sectors.{pair_of, pairs_of}
use Rattle.gptedit_core.specs.declared.sectors.Slot.{Slot}
use Rattle.gptedit_core.proofs.Pairs.{has_pair}

pub run_at : (free : ℕ → Type 0) (slots : List Slot) (s last : ℕ) (run : Slot) → AreSlots free 1 (pairs_of slots) → Contains slots run → HasSector s run.start run.length
    → last + 1 ≡ run.start + run.length → IsRunWith free s last
run_at free slots s last run are has inside is =
    let low = inside.0 in
    let high = inside.1 in
    record {
      start = run.start;
      long = run.length;
      run = All-contains (λ r. IsAlignedSlot free 1 r.0 r.1) (pairs_of slots) (pair_of run) are.each (has_pair slots run has);
      from = low;
      within = omega (arith, is, high);
      end = sym is;
    }

pub no_run : (free : ℕ → Type 0) (slots : List Slot) (s : ℕ) → AreSlots free 1 (pairs_of slots) → All (λ r. ¬ HasSector s r.start r.length) slots → HasNoRunWith free s
no_run free slots s are none start long slot =
    All-contains (λ (r : ℕ × ℕ). ¬ HasSector s r.0 r.1) (pairs_of slots) (start, long) (All-map (λ (r : ℕ × ℕ). ¬ HasSector s r.0 r.1) pair_of slots none) (are.every start long slot)

-- The start of the shortest run that is at least as long as the longest one.
pub longest_at : (free : ℕ → Type 0) (long s : ℕ) → IsMaximumSize free 1 long → IsBestPlace free 1 (max 1 long) s → IsLongestRun free s long
longest_at free long s greatest best =
    let high : best.long - best.long % 1 ≤ long = greatest.greatest s best.long best.slot in
    let low = best.fits in
    let same : best.long ≡ long = omega (arith, high, low) in
    record {
      run = subst (λ (k : ℕ). IsAlignedSlot free 1 s k) same best.slot;
      longest = λ t k slot.
          let shorter : k - k % 1 ≤ long = greatest.greatest t k slot in
          omega (arith, shorter);
      leftmost = λ t slot. best.leftmost t (subst (λ (k : ℕ). IsAlignedSlot free 1 t k) (sym same) slot);
    }

pub no_longest : (free : ℕ → Type 0) (long : ℕ) → IsMaximumSize free 1 long → HasNoPlace free 1 (max 1 long) → HasNoSlot free 1
no_longest free long greatest none s n slot =
    let run = greatest.slot in
    let is = greatest.is in
    let ends = run.long in
    let within = run.within in
    let from = run.start.from in
    none greatest.start (record {
      multiple = run.start.multiple;
      inside = λ x low high. run.run.inside x (omega (arith, low, from)) (omega (arith, is, ends, within, high));
    })

-- It has a sector.
pub longest_some : (free : ℕ → Type 0) (long : ℕ) → IsMaximumSize free 1 long → 0 < long
longest_some free long greatest =
    let is = greatest.is in
    let ends = greatest.slot.long in
    let within = greatest.slot.within in
    omega (arith, is, ends, within)
