-- A write after calls that only read starts from, and leaves, the same as without them.
use Rattle.std.proofs.Common.{◌≡◌, ◌⊎◌, true, ℕ, List, length, sym, ◌∙◌, subst}
use Rattle.gptman_disk.specs.Disk.{AgreesOutside, DiskState, IsPending, Reads, Wrote}
use Rattle.gptman_disk.specs.Ranges.{AgreesInside}
use Rattle.gptman.specs.Crash.{BothPlacesAfter, IsLeftAlone, PlaceAfter, StartsLaidOut, StartsSynced, StopsComeInOrder, other_place}
use Rattle.gptman.specs.Crash.PlaceAfter.{left_alone, written, torn}
use Rattle.gptman.specs.Layout.{HasLayout, Holds, copy_ranges_at}
use Rattle.gptman.specs.Reading.{CopyPlace, copy_start}
use Rattle.gptman.specs.Table.{Table, table_in}
use Rattle.gptman.specs.declared.table.GPT.{GPT}
use Rattle.gptman_disk.proofs.Ranges.{Ranges, within_none, within_self}
use Rattle.gptman.proofs.Runs.{leaves_then, wrote_then, wrote_wider}
use Rattle.gptman.proofs.Argument.{only_read}
use Rattle.gptman.proofs.TwoPlaces.{order_of}

module _ (g : GPT) (a b : DiskState) (read : Reads a b) where
  pub laid_out_still : StartsLaidOut a g → StartsLaidOut b g
  laid_out_still start = record {
    honest = (read.only start.honest).wrote.honest;
    layout = subst (HasLayout g) (sym read.keeps.size) start.layout;
  }

  pub synced_still : StartsSynced a g → StartsSynced b g
  synced_still from = record { start = laid_out_still from.start; synced = (read.only from.start.honest).pending ∙ from.synced }

  -- A crash during these reads leaves all bytes unchanged.
  pub order_still : length a.view ≡ a.size → StartsSynced a g → StopsComeInOrder a b g
  order_still long from = order_of g a b long from (λ side form laid. only_read (read.only from.start.honest))

  -- If a crash in the write leaves the other copy complete, or the bytes outside it unchanged, so does a crash in both.
  pub order_then : (c : DiskState) (ranges : Ranges) → length a.view ≡ a.size → StartsSynced a g → Wrote ranges b c → StopsComeInOrder b c g → StopsComeInOrder a c g
  order_then c ranges long from wrote next = λ side form.
      let only = read.only from.start.honest in
      let here : DiskState → List ℕ → Type 0 = λ d x.
      AgreesOutside (copy_ranges_at (other_place side) (table_in g) g.sector_size d.size) d.view x ⊎ Holds x g.sector_size (other_place side) (table_in g) in
      let same : (x : List ℕ) → here b x → here a x = λ x is.
      subst (λ (v : List ℕ). AgreesOutside (copy_ranges_at (other_place side) (table_in g) g.sector_size a.size) v x ⊎ Holds x g.sector_size (other_place side) (table_in g)) only.view
      (subst (λ (n : ℕ). AgreesOutside (copy_ranges_at (other_place side) (table_in g) g.sector_size n) b.view x ⊎ Holds x g.sector_size (other_place side) (table_in g)) read.keeps.size is) in
      leaves_then (here a) only.wrote.time wrote.time (order_still long from side form) (λ x left. same x (next side form x left))

  -- The written bytes are the same,
  pub wrote_still : (c : DiskState) (ranges : Ranges) → a.is_honest ≡ true → Wrote ranges b c → Wrote ranges a c
  wrote_still c ranges honest wrote = wrote_then (within_self ranges) (wrote_wider within_none (read.only honest).wrote) wrote

  -- and so is a place after an error.
  side_still : (c : DiskState) (side : CopyPlace) (t : Table) (ss : ℕ) → b.view ≡ a.view → PlaceAfter side t ss b c → PlaceAfter side t ss a c
  side_still c side t ss view (left_alone is) = left_alone (subst (λ (n : ℕ). IsLeftAlone (copy_ranges_at side t ss n) a c) read.keeps.size (record {
    not_pending = is.not_pending;
    same = subst (λ (v : List ℕ). AgreesInside (copy_ranges_at side t ss b.size) v c.view) view is.same;
  }))
  side_still c side t ss view (written holds) = written holds
  side_still c side t ss view (torn is) = torn (subst (λ (n : ℕ). IsPending (copy_start side n ss, 92) c) read.keeps.size is)

  pub after_still : (c : DiskState) → a.is_honest ≡ true → BothPlacesAfter g b c → BothPlacesAfter g a c
  after_still c honest both =
      let view = (read.only honest).view in
      (side_still c _ (table_in g) g.sector_size view both.0, side_still c _ (table_in g) g.sector_size view both.1)
