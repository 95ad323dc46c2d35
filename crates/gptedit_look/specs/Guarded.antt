-- The result of the check before a write.
use Rattle.std.specs.Prelude.{◌≡◌, ◌≢◌, ◌<◌, ◌⊎◌, ◌/◌, ℕ, List, [], ◌∷◌, get_or}
use Rattle.gptman.specs.Disk.{AgreesOutside, Outside}
use Rattle.gptman.specs.Mbr.{mbr_range}
use Rattle.gptman.specs.TableWrites.{table_ranges}
use Rattle.gptman.specs.declared.table.GPT.{GPT}
use Rattle.gptedit_look.specs.Guard.{IsWritten, MayBeOverwritten}
use Rattle.gptedit_look.specs.declared.seen.Look.{Look}
use Rattle.gptedit_look.specs.declared.seen.Obstacle.{Obstacle}
use Rattle.gptedit_look.specs.declared.seen.Purpose.{Purpose}
use Rattle.gptedit_look.specs.declared.seen.Purpose.TheVariants.{New}
use Rattle.gptedit_look.specs.declared.first_sector.MbrKind.TheVariants.{Dos}

-- The write may overwrite each byte that it touches, on a disk of `size` bytes.
abbrev pub AreAllFree : Look → Purpose → GPT → List ℕ → ℕ → Type 0
AreAllFree look purpose next b size = (k : ℕ) → IsWritten next k → k < size → MayBeOverwritten look purpose next b k

-- Outside the 66 bytes of the MBR, a write of the table and an MBR changes only bytes that it may overwrite.
abbrev pub SparesOthers : Look → Purpose → GPT → List ℕ → Type 0
SparesOthers look purpose next b =
    (c : List ℕ) → AgreesOutside (mbr_range ∷ table_ranges next) b c
    → (k : ℕ) → Outside (mbr_range ∷ []) k → get_or c k 0 ≢ get_or b k 0 → MayBeOverwritten look purpose next b k

-- A write of the table touches byte k, and may not overwrite it.
abbrev pub IsRefusedOf : Look → Purpose → GPT → List ℕ → ℕ → Type 0
IsRefusedOf look purpose next b k = IsWritten next k × (¬ MayBeOverwritten look purpose next b k)

-- The obstacle has a reason: the disk is a DOS disk, the table is new, or the first sector of the obstacle contains a
-- byte that the write touches and may not overwrite.
abbrev pub IsNamed : Look → Purpose → GPT → List ℕ → Obstacle → Type 0
IsNamed look purpose next b obstacle = (look.first_sector.kind ≡ Dos) ⊎ ((purpose ≡ New)
    ⊎ ((k : ℕ) × (IsRefusedOf look purpose next b k × (obstacle.first ≡ k / look.sector_size))))
