-- One good copy of a table, and two.
use Rattle.std.proofs.Common.{◌≡◌, List, sym, subst}
use Rattle.gptman.specs.Crash.{HasRangesOf, IsKeptFor, other_place, StartsFromOne, StartsStored, StartsSynced}
use Rattle.gptman_disk.specs.Disk.{AgreesOutside, DiskState, IsSound, LeavesOnly, Wrote}
use Rattle.gptman_disk.specs.Ranges.{AreClear}
use Rattle.gptman.specs.Layout.{HasLayout, Holds, copy_ranges_at}
use Rattle.gptman.specs.Reading.{CopyPlace, primary, backup}
use Rattle.gptman.specs.Stop.{IsStored}
use Rattle.gptman.specs.Table.{Table, entries_in, table_in, IsHeaderForm}
use Rattle.gptman.specs.Write.{four_ranges}
use Rattle.gptman.specs.declared.table.GPT.{GPT}
use Rattle.std.proofs.Common.{ℕ, []}
use Rattle.gptman.proofs.Apart.{clear_if_apart}
use Rattle.gptman.proofs.Argument.{leaves_ranges}
use Rattle.gptman.proofs.FourRanges.{four_ranges_at, sides_apart, same_ranges, within_four}
use Rattle.gptman_disk.proofs.Ranges.{Ranges, agrees_wider}

-- All bytes outside the four ranges are unchanged.
pub leaves_outside : (g : GPT) (a b : DiskState) → a.pending ≡ [] → HasLayout g a.size → Wrote (four_ranges g.header g.sector_size) a b
    → LeavesOnly a b (AgreesOutside (four_ranges_at (table_in g) g.sector_size a.size) a.view)
leaves_outside g a b synced layout run x left =
    agrees_wider (within_four layout.side g.header (entries_in g) g.sector_size a.size layout.form layout.table) (leaves_ranges (four_ranges g.header g.sector_size) a b run synced x left)

-- Without a call a crash leaves the disk unchanged.
pub leaves_still : (a : DiskState) (P : List ℕ → Type 0) → IsSound a → a.pending ≡ [] → ((x : List ℕ) → AgreesOutside [] a.view x → P x) → LeavesOnly a a P
leaves_still a P sound synced here x left = here x (subst (λ (ps : Ranges). AgreesOutside ps a.view x) synced (sound.only_now x left))

-- ---- two good copies

pub stored_at : (side : CopyPlace) (disk : DiskState) (ss : ℕ) (t : Table) → IsStored disk ss t → Holds disk.view ss side t
stored_at primary disk ss t stored = stored.at_primary
stored_at backup disk ss t stored = stored.at_backup

-- A table with the same ranges that the place of the value's form holds is one good copy for the value.
pub held_is_kept : (side : CopyPlace) (disk : DiskState) (g : GPT) (old : Table) → disk.pending ≡ [] → IsHeaderForm side g.header → Holds disk.view g.sector_size side old → HasLayout g disk.size
    → HasRangesOf old (table_in g) → IsKeptFor disk g old
held_is_kept side disk g old synced form held layout same =
    let other : Ranges = copy_ranges_at (other_place side) (table_in g) g.sector_size disk.size in
    record {
      synced = synced;
      side = side;
      form = form;
      held = held;
      clear = subst (λ (rs : Ranges). AreClear rs other) (sym (same_ranges side old (table_in g) g.sector_size disk.size same))
          (clear_if_apart (copy_ranges_at side (table_in g) g.sector_size disk.size) other (sides_apart side (table_in g) g.sector_size disk.size layout.table));
    }

-- Two good copies of a table with the same ranges are one good copy at the value's own place.
pub stored_is_kept : (disk : DiskState) (g : GPT) (old : Table) → IsStored disk g.sector_size old → HasLayout g disk.size → HasRangesOf old (table_in g)
    → IsKeptFor disk g old
stored_is_kept disk g old stored layout same =
    held_is_kept layout.side disk g old stored.synced layout.form (stored_at layout.side disk g.sector_size old stored) layout same

pub one_of_stored : (disk : DiskState) (g : GPT) (old : Table) → StartsStored disk g old → StartsFromOne disk g old
one_of_stored disk g old from = record {
  start = record { honest = from.honest; layout = from.layout };
  kept = stored_is_kept disk g old from.stored from.layout (record { count = from.count; last = from.last });
}

-- With one good copy nothing is pending.
pub one_is_synced : (disk : DiskState) (g : GPT) (old : Table) → StartsFromOne disk g old → StartsSynced disk g
one_is_synced disk g old from = record { start = from.start; synced = from.kept.synced }
