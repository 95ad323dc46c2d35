-- The choice among the kept slots, and the slots after an entry is put.
use Prim.Native.Nat.{◌∣◌}
use Rattle.std.proofs.Common.{◌≡◌, ◌≢◌, ℕ, ◌+◌, ◌-◌, ◌^◌, ◌<◌, ◌≤◌, max, List, length, get_or, take, inl, inr, Option, Some, None, option_map, refl, sym, ap, ◌∙◌, subst, arith, not, IsTrue}
use Rattle.std.specs.Prelude.{IfSome, IsSomeAnd}
use Rattle.std.specs.List.{All, flat_map}
use Rattle.std.proofs.lemmas.Bool.{cases_eq, cases_lt, false≢true}
use Rattle.std.proofs.lemmas.List.{get_or-set_other, get_or-set_same, get_or_default, length-map, length-set}
use Rattle.std.proofs.lemmas.List.Elements.{All-contains, All-set, All-weaker}
use Rattle.gptman.specs.Chosen.{AreShort, IsBestSlot, IsTighter}
use Rattle.gptman.specs.Coding.{empty_entry}
use Rattle.gptman.specs.Entry.{covers, is_unused, is_used}
use Rattle.gptman.specs.Number.{entry_at, with_entry, IsNumber}
use Rattle.gptman.specs.Place.{AreSlots, HasNoSlot, IsAlignedSlot, IsFirstMultiple, IsFreeIn}
use Rattle.gptman.specs.Table.{entries_in}
use Rattle.gptman.specs.declared.codec.entry.GPTPartitionEntry.{GPTPartitionEntry}
use Rattle.gptman.specs.declared.table.GPT.{GPT}
use Rattle.gptman.proofs.Choice.{kept_more, taken_more, SoFar}
use Rattle.gptman.proofs.Covered.{covered_if, covers_if}
use Rattle.gptman.proofs.FreeSectors.{free_settled}
use Rattle.gptman.proofs.Offers.{best, first, last, none_offered, offered, IsAsked}
use Rattle.gptedit_core.specs.Placing.{HasNoLongestPlace, HasNoneChosen, IsChosen, IsLongestPlace, IsLongestRun, IsStartInLongest}
use Rattle.gptedit_core.specs.Sectors.{pair_of, pairs_of}
use Rattle.gptedit_core.specs.Slots.{rest_of, start_in, AreSlotsOf, IsLonger, IsNoWorse}
use Rattle.gptedit_core.specs.declared.asked.Choice.{Choice}
use Rattle.gptedit_core.specs.declared.asked.Choice.TheVariants.{First, Last, Best, Longest as InLongest}
use Rattle.gptedit_core.specs.declared.sectors.Slot.{Slot}
use Rattle.gptedit_core.proofs.Cuts.{slot_long, slots_left, IsLess}
use Rattle.gptedit_core.proofs.Pairs.{all_fit, at_pair}

-- ---- the choice

itself : (choice : Choice) (s : ℕ × ℕ) → IsNoWorse choice s s
itself First s = omega arith
itself Last s = omega arith
itself Best s = inr (refl, omega arith)
itself InLongest s = inr (refl, omega arith)

tighter_than : (s t u : ℕ × ℕ) → IsTighter s t → IsTighter t u → IsTighter s u
tighter_than s t u (inl p) (inl q) = inl (omega arith)
tighter_than s t u (inl p) (inr q) = let e = q.0 in inl (omega arith)
tighter_than s t u (inr p) (inl q) = let e = p.0 in inl (omega arith)
tighter_than s t u (inr p) (inr q) = let e = p.0 in let f = q.0 in let g = p.1 in let h = q.1 in inr (omega arith, omega arith)

longer_than : (s t u : ℕ × ℕ) → IsLonger s t → IsLonger t u → IsLonger s u
longer_than s t u (inl p) (inl q) = inl (omega arith)
longer_than s t u (inl p) (inr q) = let e = q.0 in inl (omega arith)
longer_than s t u (inr p) (inl q) = let e = p.0 in inl (omega arith)
longer_than s t u (inr p) (inr q) = let e = p.0 in let f = q.0 in let g = p.1 in let h = q.1 in inr (omega arith, omega arith)

no_worse_than : (choice : Choice) (s t u : ℕ × ℕ) → IsNoWorse choice s t → IsNoWorse choice t u → IsNoWorse choice s u
no_worse_than First s t u p q = omega arith
no_worse_than Last s t u p q = omega arith
no_worse_than Best s t u p q = tighter_than s t u p q
no_worse_than InLongest s t u p q = longer_than s t u p q

module _ (choice : Choice) (n : ℕ) (slots : List Slot) (i : ℕ) (slot : Slot) (within : i < length slots) (is : slot ≡ get_or slots i slot) where
  pair_is : get_or (pairs_of slots) i (0, 0) ≡ pair_of slot
  pair_is = at_pair slots i slot within is

  below : i < length (pairs_of slots)
  below = omega (arith, within, length-map slots pair_of)

  -- The slot at i is chosen.
  taken : n ≤ slot.length → All (λ t. n ≤ t.1 → IsNoWorse choice (pair_of slot) t) (take i (pairs_of slots))
      → SoFar (IsNoWorse choice) n (take (i + 1) (pairs_of slots)) (Some (pair_of slot))
  taken fits all =
      subst (λ (s : ℕ × ℕ). SoFar (IsNoWorse choice) n (take (i + 1) (pairs_of slots)) (Some s)) pair_is
      (taken_more (IsNoWorse choice) n (pairs_of slots) i below (subst (λ (s : ℕ × ℕ). n ≤ s.1) (sym pair_is) fits) (itself choice (get_or (pairs_of slots) i (0, 0)))
      (subst (λ (s : ℕ × ℕ). All (λ t. n ≤ t.1 → IsNoWorse choice s t) (take i (pairs_of slots))) (sym pair_is) all))

  pub pick_taken : (found : Option Slot) → SoFar (IsNoWorse choice) n (take i (pairs_of slots)) (option_map pair_of found) → n ≤ slot.length
      → IfSome found (λ s. IsNoWorse choice (pair_of slot) (pair_of s)) → SoFar (IsNoWorse choice) n (take (i + 1) (pairs_of slots)) (Some (pair_of slot))
  pick_taken None short fits better =
      taken fits (All-weaker (λ t. t.1 < n) (λ t. n ≤ t.1 → IsNoWorse choice (pair_of slot) t) (λ t less long. absurd (omega arith)) (take i (pairs_of slots)) short)
  pick_taken (Some b) c fits better =
      taken fits (All-weaker (λ t. n ≤ t.1 → IsNoWorse choice (pair_of b) t) (λ t. n ≤ t.1 → IsNoWorse choice (pair_of slot) t)
      (λ t than long. no_worse_than choice (pair_of slot) (pair_of b) t better (than long)) (take i (pairs_of slots)) c.best)

  -- The slot at i is skipped.
  pub pick_kept : (found : Option Slot) → SoFar (IsNoWorse choice) n (take i (pairs_of slots)) (option_map pair_of found)
      → (n ≤ slot.length → IsSomeAnd found (λ s. IsNoWorse choice (pair_of s) (pair_of slot)))
      → SoFar (IsNoWorse choice) n (take (i + 1) (pairs_of slots)) (option_map pair_of found)
  pick_kept None short no_better =
      kept_more (IsNoWorse choice) n (pairs_of slots) i None below short
      (subst (λ (s : ℕ × ℕ). s.1 < n) (sym pair_is) (elim (cases_lt slot.length n) [ inl less ↦ less | inr more ↦ absurd (no_better more) ]))
  pick_kept (Some b) c no_better =
      kept_more (IsNoWorse choice) n (pairs_of slots) i (Some (pair_of b)) below c
      (subst (λ (s : ℕ × ℕ). n ≤ s.1 → IsNoWorse choice (pair_of b) s) (sym pair_is) no_better)

-- ---- the place

asked_of : (g : GPT) (n : ℕ) (slots : List Slot) → 0 < g.align → 0 < n → AreSlotsOf g g.align slots → IsAsked g n n (pairs_of slots)
asked_of g n slots positive some are = record { positive = positive; is = omega arith; found = are; fits = all_fit slots }

-- The span is the chosen one, and ends at a 64-bit sector.
pub record IsOffered (g : GPT) (choice : Choice) (n start : ℕ) : Type 0 where
  pub chosen : IsChosen choice (IsFreeIn g) g.align (max 1 n) start
  pub fits : start + max 1 n ≤ 2 ^ 64

pub place_of : (choice : Choice) (g : GPT) (n : ℕ) (slots : List Slot) (s : ℕ × ℕ) → choice ≢ InLongest → 0 < g.align → 0 < n → AreSlotsOf g g.align slots
    → IsBestSlot (IsNoWorse choice) n (pairs_of slots) s → IsOffered g choice n (start_in choice g.align n s)
place_of First g n slots s _ positive some are c = let o = offered first g n n (pairs_of slots) s (asked_of g n slots positive some are) c in record { chosen = o.value; fits = o.fits }
place_of Last g n slots s _ positive some are c = let o = offered last g n n (pairs_of slots) s (asked_of g n slots positive some are) c in record { chosen = o.value; fits = o.fits }
place_of Best g n slots s _ positive some are c = let o = offered best g n n (pairs_of slots) s (asked_of g n slots positive some are) c in record { chosen = o.value; fits = o.fits }
place_of InLongest g n slots s other positive some are c = absurd (other refl)

pub none_of : (choice : Choice) (g : GPT) (n : ℕ) (slots : List Slot) → choice ≢ InLongest → 0 < g.align → 0 < n → AreSlotsOf g g.align slots → AreShort n (pairs_of slots)
    → HasNoneChosen choice (IsFreeIn g) g.align (max 1 n)
none_of First g n slots _ positive some are short = none_offered g n n (pairs_of slots) (asked_of g n slots positive some are) short
none_of Last g n slots _ positive some are short = none_offered g n n (pairs_of slots) (asked_of g n slots positive some are) short
none_of Best g n slots _ positive some are short = none_offered g n n (pairs_of slots) (asked_of g n slots positive some are) short
none_of InLongest g n slots other positive some are short = absurd (other refl)

-- ---- a new entry

unused_covers : (e : GPTPartitionEntry) (x : ℕ) → IsTrue (is_unused e) → ¬ IsTrue (covers x e)
unused_covers e x unused covered = false≢true (sym (ap not unused) ∙ (covered_if e x covered).used)

-- The sectors of an entry that was put are no longer free.
pub less_free : (g : GPT) (i : ℕ) (e : GPTPartitionEntry) → IsNumber g i → IsTrue (is_unused (entry_at g i)) → IsTrue (is_used e)
    → IsLess (IsFreeIn g) (IsFreeIn (with_entry g i e)) e.starting_lba e.ending_lba
less_free g i e number unused used =
    let es : List GPTPartitionEntry = entries_in g in
    let low = number.0 in
    let high = number.1 in
    let within : i - 1 < length es = omega arith in
    record {
      down = λ x free. record {
        usable = free.usable;
        uncovered = λ j d below. elim (cases_eq j (i - 1)) [
          | inl here ↦
              let at : get_or es j d ≡ entry_at g i = get_or_default es j d empty_entry (omega (arith, below, length-set es (i - 1) e)) ∙ ap (λ (k : ℕ). get_or es k empty_entry) here in
              subst (λ (f : GPTPartitionEntry). ¬ IsTrue (covers x f)) (sym at) (unused_covers (entry_at g i) x unused)
          | inr other ↦ subst (λ (f : GPTPartitionEntry). ¬ IsTrue (covers x f)) (get_or-set_other es (i - 1) j e d other) (free.uncovered j d (omega (arith, length-set es (i - 1) e)))
        ];
      };
      out = λ x from to free.
          subst (λ (f : GPTPartitionEntry). ¬ IsTrue (covers x f)) (get_or-set_same es (i - 1) e e within) (free.uncovered (i - 1) e (omega (arith, length-set es (i - 1) e)))
          (covers_if e x (record { used = used; from = from; to = to }));
      back = λ x free outside. record {
        usable = free.usable;
        uncovered = All-set (λ f. ¬ IsTrue (covers x f)) es (i - 1) e (λ covered.
            let c = covered_if e x covered in
            let from = c.from in
            let to = c.to in
            elim outside [ inl before ↦ omega arith | inr behind ↦ omega arith ]) free.uncovered;
      };
    }

pub kept_after : (g : GPT) (align i : ℕ) (e : GPTPartitionEntry) (slots rest : List Slot) → 0 < align → IsNumber g i → IsTrue (is_unused (entry_at g i))
    → IsTrue (is_used e) → e.starting_lba ≤ e.ending_lba → AreSlotsOf g align slots
    → pairs_of rest ≡ flat_map (rest_of align e.starting_lba e.ending_lba) (pairs_of slots) → AreSlotsOf (with_entry g i e) align rest
kept_after g align i e slots rest positive number unused used ordered are is =
    subst (λ (l : List (ℕ × ℕ)). AreSlots (IsFreeIn (with_entry g i e)) align l) (sym is)
    (slots_left (IsFreeIn g) (IsFreeIn (with_entry g i e)) align e.starting_lba e.ending_lba (pairs_of slots) (less_free g i e number unused used) ordered positive
    (free_settled g.header (entries_in g)) are)

-- Slots are those of the table if their pairs are.
pub named_slots : (g : GPT) (align : ℕ) (pairs : List (ℕ × ℕ)) (slots : List Slot) → AreSlots (IsFreeIn g) align pairs → pairs_of slots ≡ pairs → AreSlotsOf g align slots
named_slots g align pairs slots are is = subst (λ (l : List (ℕ × ℕ)). AreSlots (IsFreeIn g) align l) (sym is) are

-- Each slot that the library lists has a sector,
pub all_long : (g : GPT) (align : ℕ) (slots : List (ℕ × ℕ)) → AreSlots (IsFreeIn g) align slots → All (λ s. 0 < s.1) slots
all_long g align slots are = λ k d within. slot_long (IsFreeIn g) align (get_or slots k d).0 (get_or slots k d).1 (are.each k d within)

-- and starts at a multiple.
pub all_multiples : (g : GPT) (align : ℕ) (slots : List (ℕ × ℕ)) → AreSlots (IsFreeIn g) align slots → All (λ s. align ∣ s.0) slots
all_multiples g align slots are = λ k d within. (are.each k d within).start.multiple

-- ---- the longest run

longer_is : (s t : ℕ × ℕ) → IsLonger s t → t.1 ≤ s.1
longer_is s t (inl p) = omega arith
longer_is s t (inr p) = let e = p.0 in omega arith

longer_left : (s t : ℕ × ℕ) → IsLonger s t → s.1 ≡ t.1 → s.0 ≤ t.0
longer_left s t (inl p) same = absurd (omega arith)
longer_left s t (inr p) same = p.1

pub longest_of : (g : GPT) (runs : List Slot) (s : ℕ × ℕ) → AreSlotsOf g 1 runs → IsBestSlot (IsNoWorse InLongest) 1 (pairs_of runs) s → IsLongestRun (IsFreeIn g) s.0 s.1
longest_of g runs s are best = record {
  run = All-contains (λ s. IsAlignedSlot (IsFreeIn g) 1 s.0 s.1) (pairs_of runs) s are.each best.member;
  longest = λ t k slot. longer_is s (t, k) (All-contains (λ t. 1 ≤ t.1 → IsLonger s t) (pairs_of runs) (t, k) best.best (are.every t k slot) (slot_long (IsFreeIn g) 1 t k slot));
  leftmost = λ t slot. longer_left s (t, s.1) (All-contains (λ t. 1 ≤ t.1 → IsLonger s t) (pairs_of runs) (t, s.1) best.best (are.every t s.1 slot) best.fits) refl;
}

pub no_longest_of : (g : GPT) (runs : List Slot) → AreSlotsOf g 1 runs → AreShort 1 (pairs_of runs) → HasNoSlot (IsFreeIn g) 1
no_longest_of g runs are short s n slot =
    let some = slot_long (IsFreeIn g) 1 s n slot in
    let none = All-contains (λ s. s.1 < 1) (pairs_of runs) (s, n) short (are.every s n slot) in
    omega arith

-- The n sectors from its first multiple of the alignment on.
pub in_longest : (g : GPT) (n start long skipped : ℕ) → IsLongestRun (IsFreeIn g) start long → IsFirstMultiple g.align start (start + skipped)
    → start + skipped + max 1 n ≤ start + long → IsLongestPlace (IsFreeIn g) g.align (max 1 n) (start + skipped)
in_longest g n start long skipped longest first within = (
  start + long,
  record { start = start; long = long; longest = longest; first = first; is = refl },
  within,
)

pub not_in_longest : (g : GPT) (n start long skipped : ℕ) → IsLongestRun (IsFreeIn g) start long → IsFirstMultiple g.align start (start + skipped)
    → start + long < start + skipped + max 1 n → HasNoLongestPlace (IsFreeIn g) g.align (max 1 n)
not_in_longest g n start long skipped longest first short =
    let at : IsStartInLongest (IsFreeIn g) g.align (start + skipped) (start + long) = record { start = start; long = long; longest = longest; first = first; is = refl } in
    inr (start + skipped, start + long, at, short)
