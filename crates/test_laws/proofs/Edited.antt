-- A table with a list of edits, and the effect of a crash during its write.
use Rattle.std.proofs.Common.{◌≡◌, ◌<◌, ℕ, List, [], ◌∷◌, refl, sym, subst}
use Rattle.std.specs.Prelude.{Result, IfErr}
use Rattle.std.proofs.lemmas.Result.{IfErr-weaker}
use Rattle.gptman.specs.Copy.{IsCoherent}
use Rattle.gptman.specs.Crash.{EditListsKeepPlaces, HasPlacesOf, IsReadInForm, KeepsWhatIsRead, StartsFromOne, StartsSynced}
use Rattle.gptman.specs.Disk.{AgreesOutside, DiskState, IsSound, LeavesOnly}
use Rattle.gptman.specs.Edit.{edited_all}
use Rattle.gptman.specs.Layout.{HasLayout, Holds}
use Rattle.gptman.specs.Reading.{CopyPlace}
use Rattle.gptman.specs.Fault.{fault_of}
use Rattle.gptman.specs.TableWrites.{RefusesWrite}
use Rattle.gptman.specs.Error.{Error}
use Rattle.gptman.specs.Stop.{HoldsOneOf, StopsAreReadAs}
use Rattle.gptman.specs.Table.{Table, entries_in, table_in}
use Rattle.gptman.specs.declared.edit.Edit.{Edit}
use Rattle.gptman.specs.declared.table.GPT.{GPT}
use Rattle.test_laws.specs.Edited.{RefusesEdited, not_written}
use Rattle.gptman.proofs.Held.{holds_local}
use Rattle.gptman.proofs.Ranges.{Ranges, contains_first}

-- If nothing was written or pending, a crash leaves the table that a place held.
pub still_held : (a : DiskState) (ss : ℕ) (side : CopyPlace) (was : Table) (more : List Table) → IsSound a → a.pending ≡ [] → Holds a.view ss side was → LeavesOnly a a (λ b. HoldsOneOf b ss (was ∷ more))
still_held a ss side was more sound synced held b left =
    let same : AgreesOutside [] a.view b = subst (λ (ps : Ranges). AgreesOutside ps a.view b) synced (sound.only_now b left) in
    record {
      side = side;
      table = was;
      listed = contains_first was more;
      holds = holds_local a.view b ss side was held (record { long = same.long; same = λ k inside. same.same k tt });
    }

-- A value has its own places.
own_places : (g : GPT) → HasPlacesOf g g
own_places g = record { sector = refl; form = λ side form. form; ranges = record { count = refl; last = refl } }

-- A table that was read in the form of its place is one good copy for itself.
pub own_copy : (a : DiskState) (g : GPT) → KeepsWhatIsRead a → StartsSynced a g → IsReadInForm a.view g → StartsFromOne a g (table_in g)
own_copy a g keeps start read = keeps g g start.start.honest start.synced read (own_places g) start.start.layout

-- The edited table.
module _ (law : EditListsKeepPlaces) (g next : GPT) (edits : List Edit) (is : next ≡ edited_all g edits) where
  places : HasPlacesOf g next
  places = subst (HasPlacesOf g) (sym is) (law g edits 0).0

  pub edited_sector : 0 < g.sector_size → 0 < next.sector_size
  edited_sector above = subst (λ (n : ℕ). 0 < n) (sym places.sector) above

  pub edited_coherent : IsCoherent g.header (entries_in g) → IsCoherent next.header (entries_in next)
  edited_coherent coherent = subst (λ (t : GPT). IsCoherent t.header (entries_in t)) (sym is) ((law g edits 0).2 coherent)

  -- After a crash during its write, the value or the edited table is read.
  pub edited_read : (a d : DiskState) → KeepsWhatIsRead a → StartsSynced a g → IsReadInForm a.view g
      → ((was : Table) → StartsFromOne a next was → StopsAreReadAs a d next.sector_size (was ∷ table_in next ∷ []))
      → StopsAreReadAs a d g.sector_size (table_in g ∷ table_in (edited_all g edits) ∷ [])
  edited_read a d keeps start read good =
      let layout : HasLayout next a.size = subst (λ (t : GPT). HasLayout t a.size) (sym is) ((law g edits a.size).1 start.start.layout) in
      let stops = good (table_in g) (keeps g next start.start.honest start.synced read places layout) in
      subst (λ (n : ℕ). StopsAreReadAs a d n (table_in g ∷ table_in (edited_all g edits) ∷ [])) places.sector
      (subst (λ (t : GPT). StopsAreReadAs a d next.sector_size (table_in g ∷ table_in t ∷ [])) is stops)

  -- If its write is refused, so is the edited table.
  pub edited_refused : {T : Type 0} (a d : DiskState) (r : Result T Error) → IfErr r (λ e. RefusesWrite next (fault_of e) a d) → IfErr r (λ e. RefusesEdited g edits (fault_of e) a d)
  edited_refused a d r refused =
      IfErr-weaker r (λ e. RefusesWrite next (fault_of e) a d) (λ e. RefusesEdited g edits (fault_of e) a d)
      (λ e no. not_written (subst (λ (t : GPT). RefusesWrite t (fault_of e) a d) is no)) refused
