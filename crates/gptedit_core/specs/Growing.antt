-- The table that a growth makes.
use Rattle.std.specs.Prelude.{◌≡◌, ◌≤◌, ◌<◌, ◌+◌, ◌-◌, ◌/◌, ℕ, [], Option, Some, None, Ok}
use Rattle.gptman.specs.Copy.{Copy}
use Rattle.gptman.specs.Crash.{IsKeptFor}
use Rattle.gptman.specs.Disk.{DiskState, IsHonest}
use Rattle.gptman.specs.Fault.{overflow}
use Rattle.gptman.specs.Fit.{array_sectors, fit_fault}
use Rattle.gptman.specs.Layout.{HasLayout, HasRightSectors, Holds}
use Rattle.gptman.specs.Reading.{backup, copy_in, primary}
use Rattle.gptman.specs.Table.{Table, grow_to, table_in, IsHeaderForm}
use Rattle.gptman.specs.TableWrites.{MayBeWritten}
use Rattle.gptman.specs.declared.table.GPT.{GPT}
use Rattle.gptman_change.specs.Reads.{size_for}
use Rattle.gptedit_core.specs.Planning.{Differs, IsLeftAs, IsWrittenAs, RefusesCheck}
use Rattle.gptedit_core.specs.declared.growth.Bounds.{Bounds}
use Rattle.gptedit_core.specs.declared.growth.Bounds.TheVariants.{Kept, Usual}
use Rattle.gptedit_core.specs.declared.growth.Growth.{Growth}
use Rattle.gptedit_core.specs.declared.plan.Outcome.{Outcome}
use Rattle.gptedit_core.specs.declared.refusal.Refusal.{Refusal}
use Rattle.gptedit_core.specs.declared.refusal.Refusal.TheVariants.{NotLaidOut, TooSmall}

-- The table ends where a disk of len bytes does: its headers are in sector 1 and in the last whole sector.
abbrev pub EndsAt : ℕ → GPT → Type 0
EndsAt len g = HasRightSectors (table_in g) g.sector_size len

-- The first sector after the entries of the primary copy.
abbrev pub lowest_usable : GPT → ℕ
lowest_usable g = 2 + array_sectors g.header g.sector_size

-- The first usable sector stays if it is after the entries of the primary copy and not after the last usable sector.
-- Otherwise it is the one after those entries.
pub data IsKeptFirst (was lowest last first : ℕ) : Type 0 where
  stays_first : lowest ≤ was → was ≤ last → first ≡ was → IsKeptFirst was lowest last first
  was_too_low : was < lowest → first ≡ lowest → IsKeptFirst was lowest last first
  was_too_high : last < was → first ≡ lowest → IsKeptFirst was lowest last first

-- The table with another first usable sector.
abbrev pub with_first : ℕ → GPT → GPT
with_first first g = record g { header = record g.header { first_usable_lba = first } }

-- A growth on a disk of len bytes makes next of g. If the bounds are kept and g ends there, it is unchanged. If they
-- are kept and g ends elsewhere, the library fits it to the disk, and its first usable sector is kept. With the usual
-- bounds the library fits it, and g must end there.
pub data IsFitted (bounds : Bounds) (len : ℕ) (g next : GPT) : Type 0 where
  stays : bounds ≡ Kept → EndsAt len g → next ≡ g → IsFitted bounds len g next
  follows : bounds ≡ Kept → (¬ EndsAt len g) → (first : ℕ)
      → IsKeptFirst g.header.first_usable_lba (lowest_usable g) (grow_to g len).header.last_usable_lba first
      → next ≡ with_first first (grow_to g len) → IsFitted bounds len g next
  is_usual : bounds ≡ Usual → EndsAt len g → next ≡ grow_to g len → IsFitted bounds len g next

-- The table is fitted to a disk of len bytes. It has the stated layout there, and may be written.
pub record IsGrown (bounds : Bounds) (len : ℕ) (g next : GPT) : Type 0 where
  pub fits : fit_fault g.header g.sector_size len ≡ None
  pub fitted : IsFitted bounds len g next
  pub layout : HasLayout next len
  pub may : MayBeWritten next len

-- A table that was fitted to a disk of len bytes is refused: it does not have the stated layout, or may not be
-- written.
pub data RefusesGrown (next : GPT) (len : ℕ) (r : Refusal) : Type 0 where
  grown_not_laid_out : ¬ HasLayout next len → r ≡ NotLaidOut → RefusesGrown next len r
  grown_not_written : HasLayout next len → RefusesCheck next r → RefusesGrown next len r

-- A growth to a disk of len bytes is refused, for the first of these reasons that applies.
pub data RefusesGrowth (bounds : Bounds) (len : ℕ) (g : GPT) (r : Refusal) : Type 0 where
  too_small : fit_fault g.header g.sector_size len ≡ Some overflow → r ≡ TooSmall → RefusesGrowth bounds len g r
  ends_elsewhere : fit_fault g.header g.sector_size len ≡ None → bounds ≡ Usual → (¬ EndsAt len g) → r ≡ NotLaidOut → RefusesGrowth bounds len g r
  not_grown : fit_fault g.header g.sector_size len ≡ None → (next : GPT) → IsFitted bounds len g next → RefusesGrown next len r → RefusesGrowth bounds len g r

-- The table that a growth writes and its outcome; the outcome if it writes nothing.
abbrev pub IsWrittenGrown : Growth → ℕ → GPT → GPT → Outcome → Type 0
IsWrittenGrown growth len = IsWrittenAs (IsGrown growth.bounds len) Differs growth.is_dry

abbrev pub IsLeftGrown : Growth → ℕ → GPT → Outcome → Type 0
IsLeftGrown growth len = IsLeftAs (IsGrown growth.bounds len) Differs (RefusesGrowth growth.bounds len) growth.is_dry

-- ---- consequences

-- The tables differ only in the sectors of their copies and in their bounds.
abbrev pub HasOthersOf : GPT → GPT → Type 0
HasOthersOf g next = next ≡ record g {
  header = record g.header {
    primary_lba = next.header.primary_lba;
    backup_lba = next.header.backup_lba;
    first_usable_lba = next.header.first_usable_lba;
    last_usable_lba = next.header.last_usable_lba;
    partition_entry_lba = next.header.partition_entry_lba;
  };
}

-- The table ends where a disk of len bytes does. The backup entries follow the last usable sector and reach to the
-- last whole sector. The first usable sector is after the primary entries.
pub record ReachesEnd (len : ℕ) (g next : GPT) : Type 0 where
  pub ends : EndsAt len next
  pub last : next.header.last_usable_lba + 1 + array_sectors g.header g.sector_size ≡ len / g.sector_size - 1
  pub first : lowest_usable g ≤ next.header.first_usable_lba
  pub others : HasOthersOf g next

-- A growth that keeps the bounds makes a table that ends elsewhere reach the end.
abbrev pub GrowthsReachEnd : Type 0
GrowthsReachEnd = (len : ℕ) (g next : GPT) → IsGrown Kept len g next → (¬ EndsAt len g) → ReachesEnd len g next

-- A growth that keeps the bounds leaves a table that ends where the disk does unchanged.
abbrev pub GrowthsLeaveEnds : Type 0
GrowthsLeaveEnds = (len : ℕ) (g next : GPT) → IsGrown Kept len g next → EndsAt len g → next ≡ g

-- The first usable sector stays if it is after the primary entries and not after the last usable sector of the grown
-- table.
abbrev pub GrowthsKeepFirst : Type 0
GrowthsKeepFirst = (len : ℕ) (g next : GPT) → IsGrown Kept len g next → lowest_usable g ≤ g.header.first_usable_lba → g.header.first_usable_lba ≤ next.header.last_usable_lba
    → next.header.first_usable_lba ≡ g.header.first_usable_lba

-- With the usual bounds all sectors between the two copies are usable.
abbrev pub UsualBoundsReachEnd : Type 0
UsualBoundsReachEnd = (len : ℕ) (g next : GPT) → IsGrown Usual len g next → ReachesEnd len g next × (next.header.first_usable_lba ≡ lowest_usable g)

-- A grown table can be grown again on the same disk, and is unchanged by it.
abbrev pub GrowthsStay : Type 0
GrowthsStay = (bounds : Bounds) (len : ℕ) (g next : GPT) → IsGrown bounds len g next → IsGrown bounds len next next × ((after : GPT) → IsGrown bounds len next after → after ≡ next)

-- A table in the primary place is one good copy for the write of the grown one, if nothing is pending and the value
-- that is grown is in primary form and has the same number of entries.
abbrev pub GrowthsKeepPrimary : DiskState → Type 0
GrowthsKeepPrimary disk = (bounds : Bounds) (was : Table) (g next : GPT) → disk.pending ≡ [] → Holds disk.view g.sector_size primary was → IsHeaderForm primary g.header
    → g.header.number_of_partition_entries ≡ was.count → IsGrown bounds disk.size g next → IsKeptFor disk next was

-- An honest disk without pending bytes has this table in its primary place, and no accepted copy in its backup place.
pub record StartsPrimary (disk : DiskState) (ss : ℕ) (was : Table) : Type 0 where
  pub honest : IsHonest disk
  pub synced : disk.pending ≡ []
  pub held : Holds disk.view ss primary was
  pub no_backup : (copy : Copy) → ¬ (copy_in backup disk.view ss ≡ Ok copy)

-- StartsPrimary with sectors of a size that is given or found.
abbrev pub StartsPrimaryFor : DiskState → Option ℕ → Table → Type 0
StartsPrimaryFor disk size was = StartsPrimary disk (size_for disk.view size) was
