-- A table that is read from a disk, with a sector size that is given or found.
use Rattle.std.specs.Prelude.{◌≡◌, ◌⊎◌, ℕ, List, Option, Some, None, Ok, Err}
use Rattle.gptman.specs.Alignment.{IsAlignment}
use Rattle.gptman.specs.Disk.{DiskState, Rose}
use Rattle.gptman.specs.Fault.{Fault, invalid_signature, out_of_memory}
use Rattle.gptman.specs.Reading.{found_sector_size, reading_of}
use Rattle.gptman.specs.Table.{entries_in}
use Rattle.gptman.specs.TableReads.{copy_of, IsReadingFault, MayBeRead}
use Rattle.gptman.specs.declared.table.GPT.{GPT}

-- the sector size that is given, else the one that is found
abbrev pub size_for : List ℕ → Option ℕ → ℕ
size_for view None = found_sector_size view
size_for view (Some ss) = ss

-- The sector size is the given one; if it is to be found, it is 512, or 4096 if a read with 512 finds no signature.
abbrev pub IsSizeFor : List ℕ → Option ℕ → ℕ → Type 0
IsSizeFor view None n = (n ≡ 512) ⊎ ((n ≡ 4096) × (reading_of view 512 ≡ Err invalid_signature))
IsSizeFor view (Some ss) n = n ≡ ss

-- The table was read from the disk: it is an accepted copy, with the alignment of its entries. Unless the disk failed,
-- it is the copy that a read selects.
pub record IsReadFrom (size : Option ℕ) (old new : DiskState) (table : GPT) : Type 0 where
  pub sector : table.sector_size ≡ size_for old.view size
  pub accepted : MayBeRead old new table.sector_size (copy_of table)
  pub taken : Rose old new ⊎ (reading_of old.view table.sector_size ≡ Ok (copy_of table))
  pub align : IsAlignment table.header (entries_in table) table.align

-- Why a read fails: an allocation failed; no copy is good; or the disk failed, and the error is `Io` or a fault of the
-- copies.
pub data RefusesReading (size : Option ℕ) (fault : Fault) (old new : DiskState) : Type 0 where
  no_memory : fault ≡ out_of_memory → RefusesReading size fault old new
  bad_copies : reading_of old.view (size_for old.view size) ≡ Err fault → RefusesReading size fault old new
  disk_failed : Rose old new → (sector : ℕ) → IsSizeFor old.view size sector → IsReadingFault old.view sector fault → RefusesReading size fault old new
