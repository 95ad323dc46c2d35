-- The places after a list of edits whose next edit was not written, and that each copy is read without the other.
use Rattle.std.proofs.Common.{◌≡◌, ◌⊎◌, ◌<◌, ◌+◌, ◌++◌, ⊎_elim, inl, inr, ℕ, true, List, [], ◌∷◌, length, refl, sym, ◌∙◌, subst, arith}
use Rattle.std.specs.Prelude.{fold, take}
use Rattle.std.proofs.lemmas.Bool.{cases_lt}
use Rattle.gptman_disk.specs.Disk.{DiskState, IsPending, IsSound, OnlyRead}
use Rattle.gptman_disk.specs.Ranges.{AgreesInside}
use Rattle.gptman.specs.Commit.{BothPlacesAfterEdits, HoldsInAnyImage, IsStoredAfter, PlaceAfterEdits}
use Rattle.gptman.specs.Commit.PlaceAfterEdits.{as_it_was, holds_last, holds_next, header_pending}
use Rattle.gptman.specs.Crash.{AreReadFromEachCopy, BothPlacesAfter, IsLeftAlone, IsReadFromEachCopy, PlaceAfter, StartsSynced}
use Rattle.gptman.specs.Crash.PlaceAfter.{left_alone, written, torn}
use Rattle.gptman.specs.Edit.{after_edit, table_after}
use Rattle.gptman.specs.Layout.{HasLayout, Holds, copy_ranges_at}
use Rattle.gptman.specs.Reading.{CopyPlace, primary, backup, copy_start}
use Rattle.gptman.specs.Stop.{IsStored}
use Rattle.gptman.specs.Table.{table_in}
use Rattle.gptman.specs.declared.edit.Edit.{Edit}
use Rattle.gptman.specs.declared.table.GPT.{GPT}
use Rattle.gptman.proofs.Argument.{untouched_ranges}
use Rattle.gptman.proofs.CommitLoop.{AreMade, last_table, next_table}
use Rattle.gptman.proofs.Commits.{KeepsRanges, edit_keeps, edited_keeps, keeps_both, layout_still, same_ranges_too}
use Rattle.gptman.proofs.FourRanges.{same_ranges}
use Rattle.gptman.proofs.Held.{holds_local}
use Rattle.gptman.proofs.OneGood.{stored_at}
use Rattle.gptman.proofs.EachCopy.{stored_each_copy}
use Rattle.gptman_disk.proofs.Ranges.{Ranges}

-- ---- one edit

-- Without a call both places are unchanged.
pub still_after : (g : GPT) (a : DiskState) → a.pending ≡ [] → BothPlacesAfter g a a
still_after g a synced = (left_alone (untouched_ranges _ a a refl synced), left_alone (untouched_ranges _ a a refl synced))

-- The places after a failed write of an edited table.
pub edited_after : (g mid : GPT) (edit : Edit) (a b : DiskState) → mid ≡ after_edit g edit → StartsSynced a g → (StartsSynced a mid → BothPlacesAfter mid a b) → BothPlacesAfter (after_edit g edit) a b
edited_after g mid edit a b is from after =
    let next : StartsSynced a mid = record {
      start = record { honest = from.start.honest; layout = layout_still g mid (edit_keeps g mid edit is) a.size from.start.layout };
      synced = from.synced;
    } in
    subst (λ (m : GPT). BothPlacesAfter m a b) is (after next)

-- ---- the edits so far, and one that is not written

module _ (g : GPT) (made : List Edit) (now : GPT) (a b c : DiskState) (are : AreMade g made now a b) (edits more : List Edit) (done : ℕ) (edit : Edit) (is : edits ≡ made ++ edit ∷ more) (count : done ≡ length made) where
  keeps : KeepsRanges g (after_edit now edit)
  keeps = keeps_both g now (after_edit now edit) are.sides (edited_keeps now edit)

  -- The next table has the ranges of the first one,
  same_as_first : (side : CopyPlace) → copy_ranges_at side (table_in (after_edit now edit)) (after_edit now edit).sector_size b.size ≡ copy_ranges_at side (table_in g) g.sector_size a.size
  same_as_first side =
      (λ i. copy_ranges_at side (table_in (after_edit now edit)) (keeps.sector i) (are.keeps.size i))
      ∙ sym (same_ranges side (table_in g) (table_in (after_edit now edit)) g.sector_size a.size (same_ranges_too g (after_edit now edit) keeps))

  -- and of the last one.
  same_as_last : (side : CopyPlace) (len : ℕ) → len ≡ b.size
      → copy_ranges_at side (table_in (after_edit now edit)) (after_edit now edit).sector_size b.size ≡ copy_ranges_at side (table_in now) g.sector_size len
  same_as_last side len long =
      (λ i. copy_ranges_at side (table_in (after_edit now edit)) (keeps.sector i) (sym long i))
      ∙ sym (same_ranges side (table_in now) (table_in (after_edit now edit)) g.sector_size len (same_ranges_too now (after_edit now edit) (edited_keeps now edit)))

  -- An unchanged place still holds the last table.
  still_holds : (side : CopyPlace) → IsSound b → IsStored b g.sector_size (table_in now)
      → IsLeftAlone (copy_ranges_at side (table_in (after_edit now edit)) (after_edit now edit).sector_size b.size) b c
      → HoldsInAnyImage c g.sector_size side (table_in (table_after g edits done))
  still_holds side sound stored alone x image =
      let here : IsLeftAlone (copy_ranges_at side (table_in now) g.sector_size (length b.view)) b c =
      subst (λ (rs : Ranges). IsLeftAlone rs b c) (same_as_last side (length b.view) sound.size) alone in
      let agrees : AgreesInside (copy_ranges_at side (table_in now) g.sector_size (length b.view)) b.view x = record {
        long = image.long ∙ here.same.long;
        same = λ k inside. image.same k (here.not_pending k inside) ∙ here.same.same k inside;
      } in
      subst (Holds x g.sector_size side) (last_table g made now a b c are edits more done edit is count)
      (holds_local b.view x g.sector_size side (table_in now) (stored_at side b g.sector_size (table_in now) stored) agrees)

  side_after : (side : CopyPlace) → StartsSynced a g → (b.is_honest ≡ true → IsSound b)
      → PlaceAfter side (table_in (after_edit now edit)) (after_edit now edit).sector_size b c → PlaceAfterEdits side g edits done a c
  side_after side from sound (left_alone alone) = elim (cases_lt 0 done) as (λ _. PlaceAfterEdits side g edits done a c) [
    | inl some ↦ holds_last some (⊎_elim
        (λ none. absurd (let zero = none.0 in omega (arith, some, count, zero)))
        (λ stored. still_holds side (sound (are.wrote from.start.honest).honest) stored alone)
        (are.stored_or_read from.start.honest from.start.layout))
    | inr none ↦
        let zero : done ≡ 0 = omega (arith, none) in
        let read : OnlyRead a b = are.untouched from.start.honest (sym count ∙ zero) in
        let here = subst (λ (rs : Ranges). IsLeftAlone rs b c) (same_as_first side) alone in
        as_it_was zero (record {
          not_pending = here.not_pending;
          same = subst (λ (v : List ℕ). AgreesInside (copy_ranges_at side (table_in g) g.sector_size a.size) v c.view) read.view here.same;
        })
  ]
  side_after side from sound (written holds) = holds_next (λ x image.
      subst (λ (n : ℕ). Holds x n side (table_in (table_after g edits (done + 1)))) keeps.sector
      (subst (Holds x (after_edit now edit).sector_size side) (next_table g made now a b c are edits more done edit is count) (holds x image)))
  side_after side from sound (torn pending) =
      header_pending (subst (λ (start : ℕ). IsPending (start, 92) c) (λ i. copy_start side (are.keeps.size i) (keeps.sector i)) pending)

  pub failed_after : StartsSynced a g → (b.is_honest ≡ true → IsSound b) → (StartsSynced b now → BothPlacesAfter (after_edit now edit) b c) → BothPlacesAfterEdits g edits done a c
  failed_after from sound after =
      let still = (are.wrote from.start.honest).honest in
      let synced : b.pending ≡ [] = ⊎_elim (λ none. none.1.pending ∙ from.synced) (λ stored. stored.synced) (are.stored_or_read from.start.honest from.start.layout) in
      let both = after (record {
        start = record { honest = still; layout = subst (λ (n : ℕ). HasLayout now n) (sym are.keeps.size) (layout_still g now are.sides a.size from.start.layout) };
        synced = synced;
      }) in
      (side_after primary from sound both.0, side_after backup from sound both.1)

-- ---- after the last edit

-- Edits keep the ranges.
edits_keep : (g : GPT) (edits : List Edit) → KeepsRanges g (fold after_edit g edits)
edits_keep g [] = record { sector = refl; header = refl; long = refl }
edits_keep g (edit ∷ edits) = keeps_both g (after_edit g edit) (fold after_edit (after_edit g edit) edits) (edited_keeps g edit) (edits_keep (after_edit g edit) edits)

-- Each copy of the last table is read without the other.
pub done_each_copy : {F : Type 0} (g : GPT) (edits : List Edit) (k : ℕ) (a c : DiskState) → 0 < k → F ⊎ IsStoredAfter g edits k a c → F ⊎ AreReadFromEachCopy c.view (table_after g edits k)
done_each_copy {F} g edits k a c some stands = ⊎_elim (λ failed. inl failed) (λ here. ⊎_elim
    (λ none. absurd (let zero = none.0 in omega (arith, some, zero)))
    (λ stored. inr (λ b. subst (λ (n : ℕ). IsReadFromEachCopy c.view n (table_in (table_after g edits k)) b) (sym (edits_keep g (take k edits)).sector)
    (stored_each_copy c g.sector_size (table_in (table_after g edits k)) b stored)))
    here) stands
