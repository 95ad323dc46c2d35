-- Fitting a table to a disk and writing it.
use Rattle.std.proofs.Common.{◌≡◌, ℕ, List, [], ◌∷◌, refl, sym, ap, ◌∙◌, subst}
use Rattle.std.specs.Prelude.{Result, OnOk}
use Rattle.gptman.specs.Disk.{OnlyRead, DiskState, AgreesOutside, Keeps, LeavesOnly, Wrote}
use Rattle.gptman.specs.Crash.{GrowingIsSafe, IsKeptFor}
use Rattle.gptman.specs.Fit.{fit_header}
use Rattle.gptman.specs.Layout.{HasLayout, Holds}
use Rattle.gptman.specs.Reading.{primary}
use Rattle.gptman.specs.Stop.{HoldsOneOf, IsStored}
use Rattle.gptman.specs.Table.{Table, table_in, IsHeaderForm}
use Rattle.gptman.specs.declared.table.GPT.{GPT}
use Rattle.gptman.proofs.Held.{holds_local}
use Rattle.gptman.proofs.Ranges.{Ranges, contains_first}
use Rattle.gptman.proofs.Runs.{leaves_then}
use Rattle.gptman.specs.Table.{grow_to}

-- a crash during calls that only read leaves a table that was held, if nothing is pending
pub still_held : (a b : DiskState) (ss : ℕ) (was : Table) (more : List Table) → a.pending ≡ [] → OnlyRead a b → Holds a.view ss primary was → LeavesOnly a b (λ x. HoldsOneOf x ss (was ∷ more))
still_held a b ss was more synced only held x left =
    let same : AgreesOutside [] a.view x = subst (λ (ps : Ranges). AgreesOutside ps a.view x) synced (only.wrote.crash x left) in
    record {
      side = primary;
      table = was;
      listed = contains_first was more;
      holds = holds_local a.view x ss primary was held (record { long = same.long; same = λ k inside. same.same k tt });
    }

-- The fitted value has, after the calls that fitted it, the layout that it has on the disk before them.
module _ (a b d : DiskState) (g mid : GPT) (same : mid ≡ grow_to g a.size) (keeps : Keeps a b) (layout : HasLayout (grow_to g a.size) a.size) where
  fitted_layout : HasLayout mid b.size
  fitted_layout =
      subst (λ (m : GPT). HasLayout m b.size) (sym same)
      (subst (HasLayout (grow_to g a.size)) (sym keeps.size) layout)

  -- So its write stores it,
  pub grown_stored : {T E : Type 0} (r : Result T E) → (HasLayout mid b.size → OnOk r (IsStored d mid.sector_size (table_in mid)))
      → OnOk r (IsStored d g.sector_size (table_in (grow_to g a.size)))
  grown_stored r stored = subst (λ (m : GPT). OnOk r (IsStored d m.sector_size (table_in m))) same (stored fitted_layout)

  -- and a crash at any moment leaves the old table or the fitted one.
  pub grown_held : (rs : Ranges) → a.pending ≡ [] → OnlyRead a b → IsHeaderForm primary g.header → Holds a.view g.sector_size primary (table_in g) → GrowingIsSafe b → Wrote rs b d
      → (HasLayout mid b.size → (was : Table) → IsKeptFor b mid was → LeavesOnly b d (λ x. HoldsOneOf x mid.sector_size (was ∷ table_in mid ∷ [])))
      → LeavesOnly a d (λ x. HoldsOneOf x g.sector_size (table_in g ∷ table_in (grow_to g a.size) ∷ []))
  grown_held rs synced only form held safe wrote good =
      let was : Table = table_in g in
      let sector : mid.sector_size ≡ g.sector_size = ap (λ (m : GPT). m.sector_size) same in
      let here : Holds b.view mid.sector_size primary was =
      subst (λ (n : ℕ). Holds b.view n primary was) (sym sector) (subst (λ (v : List ℕ). Holds v g.sector_size primary was) (sym only.view) held) in
      let fits : mid.header ≡ fit_header g.header mid.sector_size b.size = ap (λ (m : GPT). m.header) same ∙ (λ i. fit_header g.header (sym sector i) (sym keeps.size i)) in
      let kept : IsKeptFor b mid was = safe was g.header mid (only.pending ∙ synced) here form refl fits fitted_layout in
      leaves_then (λ x. HoldsOneOf x g.sector_size (was ∷ table_in (grow_to g a.size) ∷ [])) only.wrote.time wrote.time
      (still_held a b g.sector_size was (table_in (grow_to g a.size) ∷ []) synced only held)
      (subst (λ (m : GPT). LeavesOnly b d (λ x. HoldsOneOf x m.sector_size (was ∷ table_in m ∷ []))) same (good fitted_layout was kept))
