-- A layout leaves other entries unchanged, puts the named ones, and lengthens those that get the rest.
use Rattle.std.proofs.Common.{◌≡◌, ◌≢◌, ◌≤◌, inl, inr, ℕ, List, [], ◌∷◌, refl, sym, ap, ◌∙◌, subst, arith, suc, Bool, true, false}
use Rattle.std.specs.Prelude.{All, if◌then◌else◌}
use Rattle.gptman.specs.Coding.{empty_entry}
use Rattle.gptman.specs.Number.{entry_at, with_entry, IsNumber}
use Rattle.gptman.specs.Place.{IsFreeIn}
use Rattle.gptman.specs.Table.{entries_in}
use Rattle.gptman.specs.declared.codec.entry.GPTPartitionEntry.{GPTPartitionEntry}
use Rattle.gptman.specs.declared.table.GPT.{GPT}
use Rattle.gptedit_core.specs.Applying.{asks_rest, rest_numbers, IsApplied}
use Rattle.gptedit_core.specs.Named.{AreThere, IsAmong, IsLengthened, IsUnnamed, StaysAs}
use Rattle.gptedit_core.specs.declared.asked.Asked.{Asked}
use Rattle.gptedit_core.specs.declared.asked.RequestedLayout.{RequestedLayout}
use Rattle.gptedit_core.specs.declared.resolve.ResolvedPartition.{ResolvedPartition}
use Rattle.gptedit_core.proofs.Applied.{cleared_keep, keep, removed_keep, stays_as, there}
use Rattle.gptedit_core.proofs.Extended.{extended_ends, extended_other, is_lengthened, OnlyEnd}
use Rattle.gptedit_core.proofs.Resolved.{used_all}
use Rattle.gptedit_core.proofs.Same.{cleared_same, put_same, removed_same}

-- ---- the numbers of those that get the rest

-- No two have the same number.
abbrev pub DifferInNumber : List ResolvedPartition → Type 0
DifferInNumber [] = Unit {0}
DifferInNumber (p ∷ ps) = IsUnnamed p.number ps × DifferInNumber ps

unnamed_rest : (j : ℕ) (p : ResolvedPartition) (ps : List ResolvedPartition) → IsUnnamed j (p ∷ ps) → IsUnnamed j ps
unnamed_rest j p ps unnamed k d below = unnamed (suc k) d (omega (arith, below))

among_by : (j : ℕ) (p : ResolvedPartition) (b : Bool) (numbers : List ℕ) → p.number ≢ j → (¬ IsAmong j numbers) → ¬ IsAmong j (if b then p.number ∷ numbers else numbers)
among_by j p true numbers other rest (inl same) = other same
among_by j p true numbers other rest (inr among) = rest among
among_by j p false numbers other rest among = rest among

-- A number that no partition has is not one of them,
pub unnamed_among : (asked : List Asked) (ps : List ResolvedPartition) (j : ℕ) → IsUnnamed j ps → ¬ IsAmong j (rest_numbers asked ps)
unnamed_among [] ps j unnamed among = among
unnamed_among (a ∷ asked) [] j unnamed among = among
unnamed_among (a ∷ asked) (p ∷ ps) j unnamed among =
    among_by j p (asks_rest a.size) (rest_numbers asked ps) (unnamed 0 p (omega arith)) (unnamed_among asked ps j (unnamed_rest j p ps unnamed)) among

-- and a partition that does not get the rest has none of them.
abbrev pub AreExact : (ℕ → Type 0) → List Asked → List ResolvedPartition → Type 0
AreExact P [] ps = Unit {0}
AreExact P (a ∷ asked) [] = Unit {0}
AreExact P (a ∷ asked) (p ∷ ps) = (asks_rest a.size ≡ false → P p.number) × AreExact P asked ps

pub exact_more : (P Q : ℕ → Type 0) (i : ℕ) (asked : List Asked) (ps : List ResolvedPartition) → IsUnnamed i ps → ((j : ℕ) → j ≢ i → P j → Q j) → AreExact P asked ps → AreExact Q asked ps
exact_more P Q i [] ps unnamed turn all = tt
exact_more P Q i (a ∷ asked) [] unnamed turn all = tt
exact_more P Q i (a ∷ asked) (p ∷ ps) unnamed turn all =
    (λ none. turn p.number (unnamed 0 p (omega arith)) (all.0 none), exact_more P Q i asked ps (unnamed_rest i p ps unnamed) turn all.1)

exact_by : (a : Asked) (p : ResolvedPartition) (asked : List Asked) (ps : List ResolvedPartition) (b : Bool) → asks_rest a.size ≡ b → IsUnnamed p.number ps
    → AreExact (λ j. ¬ IsAmong j (rest_numbers asked ps)) asked ps
    → AreExact (λ j. ¬ IsAmong j (if b then p.number ∷ rest_numbers asked ps else rest_numbers asked ps)) (a ∷ asked) (p ∷ ps)
exact_by a p asked ps true is unnamed rest = (
  λ none. absurd (cc),
  exact_more (λ j. ¬ IsAmong j (rest_numbers asked ps)) (λ j. ¬ IsAmong j (p.number ∷ rest_numbers asked ps)) p.number asked ps unnamed
      (λ j other not_there. λ among. elim among [ inl same ↦ other (sym same) | inr there ↦ not_there there ]) rest,
)
exact_by a p asked ps false is unnamed rest = (λ none. unnamed_among asked ps p.number unnamed, rest)

pub all_exact : (asked : List Asked) (ps : List ResolvedPartition) → DifferInNumber ps → AreExact (λ j. ¬ IsAmong j (rest_numbers asked ps)) asked ps
all_exact [] ps differ = tt
all_exact (a ∷ asked) [] differ = tt
all_exact (a ∷ asked) (p ∷ ps) differ = exact_by a p asked ps (asks_rest a.size) refl differ.0 (all_exact asked ps differ.1)

-- ---- the whole layout

module _ (layout : RequestedLayout) (randoms : List (List ℕ)) (g next : GPT) (is : IsApplied layout randoms g next) where
  abbrev numbers : List ℕ
  numbers = rest_numbers layout.asked.items is.partitions

  at_last : (i : ℕ) → entry_at next i ≡ entry_at is.last i
  at_last i = ap (λ (m : GPT). entry_at m i) is.next_is

  -- Entries that are neither named nor removed are there when all partitions are put.
  pub placed_keeps : (i : ℕ) → 1 ≤ i → IsUnnamed i is.partitions → All (λ j. j ≢ i) layout.removed.items → (entry_at is.placed i ≡ entry_at g i) × (entry_at is.free i ≡ entry_at g i)
  placed_keeps i low unnamed kept =
      let before = cleared_keep is.partitions is.rest is.free i is.clear low unnamed ∙ removed_keep layout.removed.items (record g { align = is.align }) is.rest i is.removed low kept in
      (keep is.partitions is.free is.placed i is.put low unnamed ∙ before, before)

  pub placed_there : AreThere is.partitions is.free is.placed
  placed_there = there is.partitions is.free is.placed is.put (used_all g layout.mode layout.asked.items randoms is.partitions is.asked)

  pub last_exact : (i : ℕ) → 1 ≤ i → (¬ IsAmong i numbers) → entry_at next i ≡ entry_at is.placed i
  last_exact i low other = at_last i ∙ extended_other numbers is.placed is.last is.extended i low other

  pub last_end : (i : ℕ) → 1 ≤ i → OnlyEnd (entry_at is.placed i) (entry_at next i)
  last_end i low = subst (λ (e : GPTPartitionEntry). OnlyEnd (entry_at is.placed i) e) (sym (at_last i)) (extended_ends numbers is.placed is.last is.extended i low)

  pub placed_align : is.placed.align ≡ is.align
  placed_align =
      put_same (λ h. h.align) (λ h j e. refl) is.partitions is.free is.placed is.put
      ∙ (cleared_same (λ h. h.align) (λ h j e. refl) is.partitions is.rest is.free is.clear
      ∙ removed_same (λ h. h.align) (λ h j e. refl) layout.removed.items (record g { align = is.align }) is.rest is.removed)

  pub last_longer : (i : ℕ) → IsNumber next i → IsAmong i numbers
      → IsLengthened is.align (entry_at is.placed i) (entry_at next i) (IsFreeIn is.placed) (IsFreeIn (with_entry next i empty_entry))
  last_longer i number among =
      subst (λ (n : ℕ). IsLengthened n (entry_at is.placed i) (entry_at next i) (IsFreeIn is.placed) (IsFreeIn (with_entry next i empty_entry))) placed_align
      (is_lengthened numbers is.placed is.last next is.extended (ap (λ (m : GPT). entries_in m) is.next_is)
      (ap (λ (m : GPT). m.header.first_usable_lba) is.next_is) (ap (λ (m : GPT). m.header.last_usable_lba) is.next_is) i number among)

  -- An entry that is neither named nor removed stays.
  pub other_stays : (i : ℕ) → 1 ≤ i → IsUnnamed i is.partitions → All (λ j. j ≢ i) layout.removed.items → StaysAs layout.mode (entry_at g i) (entry_at next i)
  other_stays i low unnamed kept =
      let placed = placed_keeps i low unnamed kept in
      let after = last_exact i low (unnamed_among layout.asked.items is.partitions i unnamed) in
      stays_as layout.mode (entry_at g i) is.free i (entry_at next i) placed.1 (after ∙ placed.0) is.others
