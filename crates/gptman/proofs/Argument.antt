-- Why a crash does not lose the table: the argument of docs/CRASH.md, step by step. It does not depend on the format. A
-- table here is a predicate of byte lists (a place holds it) that the bytes in some ranges decide.
use Rattle.std.proofs.Common.{◌≡◌, ◌⊎◌, inl, inr, ℕ, List, [], ◌++◌, get_or, length, sym, ap, ◌∙◌, subst}
use Rattle.std.proofs.lemmas.List.{append-nil}
use Rattle.gptman_disk.specs.Disk.{AgreesOutside, DiskState, Image, IsPending, LeavesOnly, OnlyRead, Outside, Untouched, Within, Wrote}
use Rattle.gptman_disk.specs.Ranges.{AgreesInside, AreClear}
use Rattle.gptman.specs.Crash.{IsLeftAlone}
use Rattle.gptman_disk.proofs.Ranges.{Ranges, agrees_then, agrees_wider, within_none}
use Rattle.gptman.proofs.Runs.{leaves_then, wrote_wider}
use Rattle.gptman.proofs.Apart.{agrees_in, inside_clear}

-- The bytes in these ranges decide the predicate. The argument needs nothing more of an accepted copy.
abbrev pub IsDecidedBy : (List ℕ → Type 0) → Ranges → Type 0
IsDecidedBy P place = (b c : List ℕ) → P b → AgreesInside place b c → P c

-- A predicate that some ranges decide stays true if only others are written.
pub stays : (P : List ℕ → Type 0) (place there : Ranges) (b c : List ℕ) → IsDecidedBy P place → AreClear place there → P b → AgreesOutside there b c → P c
stays P place there b c told clear held agrees = told b c held (agrees_in place there b c clear agrees)

-- A crash changes only the written ranges, if nothing was pending at the start.
pub leaves_ranges : (there : Ranges) (a b : DiskState) → Wrote there a b → a.pending ≡ [] → LeavesOnly a b (AgreesOutside there a.view)
leaves_ranges there a b run synced = λ x left.
    subst (λ (ps : Ranges). AgreesOutside ps a.view x) (ap (λ (ps : Ranges). there ++ ps) synced ∙ append-nil there) (run.crash x left)

-- Only bytes that were written since then are pending.
pending_within : (there : Ranges) (a b : DiskState) → Wrote there a b → a.pending ≡ [] → Within b.pending there
pending_within there a b run synced = subst (Within b.pending) (ap (λ (ps : Ranges). there ++ ps) synced ∙ append-nil there) run.pending

-- Step 3. A disk with nothing pending keeps a table that it holds, at any moment, while only ranges that do not overlap
-- it are written.
pub held_while : (P : List ℕ → Type 0) (place there : Ranges) (a b : DiskState) → IsDecidedBy P place → AreClear place there → a.pending ≡ [] → P a.view → Wrote there a b
    → LeavesOnly a b P
held_while P place there a b told clear synced held run = λ x left.
    stays P place there a.view x told clear held (leaves_ranges there a b run synced x left)

-- How far a write of two copies got: the other place's ranges are written first, then the own place's.
pub data Came (own other : Ranges) (own_header other_header : ℕ × ℕ) (at_own at_other : List ℕ → Type 0) (a c : DiskState) : Type 1 where
  only_read : OnlyRead a c → Came own other own_header other_header at_own at_other a c
  other_begun : Wrote other a c → Untouched a c ⊎ IsPending other_header c → Came own other own_header other_header at_own at_other a c
  own_begun : (b : DiskState) → Wrote other a b → b.pending ≡ [] → at_other b.view → Wrote own b c → Untouched b c ⊎ IsPending own_header c
      → Came own other own_header other_header at_own at_other a c
  written : (b : DiskState) → Wrote other a b → b.pending ≡ [] → at_other b.view → Wrote own b c → c.pending ≡ [] → at_own c.view
      → Came own other own_header other_header at_own at_other a c

module _ (own other : Ranges) (own_header other_header : ℕ × ℕ) (at_own at_other : List ℕ → Type 0) (a c : DiskState) where
  abbrev Comes : Type 1
  Comes = Came own other own_header other_header at_own at_other a c

  -- Step 4. At any moment only the other place's ranges have changed, or the new table is held there.
  pub at_any_moment : IsDecidedBy at_other other → AreClear other own → a.pending ≡ [] → Comes → LeavesOnly a c (λ x. AgreesOutside other a.view x ⊎ at_other x)
  at_any_moment told apart synced (only_read read) = λ x left. inl (leaves_ranges other a c (wrote_wider within_none read.wrote) synced x left)
  at_any_moment told apart synced (other_begun run begun) = λ x left. inl (leaves_ranges other a c run synced x left)
  at_any_moment told apart synced (own_begun b first stored new second begun) =
      leaves_then (λ x. AgreesOutside other a.view x ⊎ at_other x) first.time second.time
      (λ x left. inl (leaves_ranges other a b first synced x left))
      (λ x left. inr (held_while at_other other own b c told apart stored new second x left))
  at_any_moment told apart synced (written b first stored new second done here) =
      leaves_then (λ x. AgreesOutside other a.view x ⊎ at_other x) first.time second.time
      (λ x left. inl (leaves_ranges other a b first synced x left))
      (λ x left. inr (held_while at_other other own b c told apart stored new second x left))

-- ---- after a failed call

-- Ranges of an unchanged disk with nothing pending.
pub untouched_ranges : (place : Ranges) (a b : DiskState) → b.view ≡ a.view → b.pending ≡ [] → IsLeftAlone place a b
untouched_ranges place a b view synced = record {
  not_pending = λ k inside. subst (λ (ps : Ranges). Outside ps k) (sym synced) tt;
  same = record { long = ap length view; same = λ k inside. ap (λ (v : List ℕ). get_or v k 0) view };
}

-- Ranges that do not overlap the written ones.
pub clear_ranges : (place there : Ranges) (a b : DiskState) → AreClear place there → a.pending ≡ [] → Wrote there a b → IsLeftAlone place a b
clear_ranges place there a b clear synced run = record {
  not_pending = λ k inside. (pending_within there a b run synced).covers k (inside_clear place there k clear inside);
  same = agrees_in place there a.view b.view clear run.view;
}

-- A table that a synced disk holds is still held, whatever a crash leaves, after other ranges were written.
pub held_in_any_image : (P : List ℕ → Type 0) (place there : Ranges) (b c : DiskState) → IsDecidedBy P place → AreClear place there → b.pending ≡ [] → P b.view → Wrote there b c
    → (x : List ℕ) → Image c x → P x
held_in_any_image P place there b c told clear synced held run x image =
    stays P place there b.view x told clear held (agrees_then run.view (agrees_wider (pending_within there b c run synced) image))

-- So is a table that a disk with nothing pending holds.
pub held_stored : (P : List ℕ → Type 0) (place : Ranges) (c : DiskState) → IsDecidedBy P place → c.pending ≡ [] → P c.view → (x : List ℕ) → Image c x → P x
held_stored P place c told synced held x image =
    let agrees : AgreesOutside [] c.view x = subst (λ (ps : Ranges). AgreesOutside ps c.view x) synced image in
    told c.view x held (record { long = agrees.long; same = λ k inside. agrees.same k tt })
