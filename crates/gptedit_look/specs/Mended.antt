-- The change of an MBR together with the table.
use Rattle.std.specs.Prelude.{◌≡◌, ◌≤◌, ◌<◌, ◌/◌, ℕ, Bool, false, IsTrue, [], List, max}
use Rattle.gptman.specs.Mbr.{IsMbrStored}
use Rattle.gptman.specs.Bytes.{part}
use Rattle.gptman.specs.Disk.{DiskState, Reads}
use Rattle.gptedit_look.specs.FirstSector.{IsMarked, IsVacant}
use Rattle.gptedit_look.specs.Protective.{right_length, right_start, HasSpan, IsMisfit, IsOnlyProtective}
use Rattle.gptedit_look.specs.declared.mending.MbrChange.{MbrChange}
use Rattle.gptedit_look.specs.declared.mending.MbrChange.TheVariants.{Left, Mended, Made}
use Rattle.gptedit_look.specs.declared.mending.Plan.{Plan}
use Rattle.gptedit_look.specs.declared.mending.Plan.TheVariants.{Leave, Mend, Make}

-- The first 512 bytes of a disk.
abbrev pub first_bytes : DiskState → List ℕ
first_bytes disk = part disk.view 0 512

-- The number of sectors of a disk.
abbrev pub sectors_of : DiskState → ℕ → ℕ
sectors_of disk sector_size = disk.size / max sector_size 1

-- Entry i is protective, the only entry, and out of place.
pub record IsInNeed (may_move : Bool) (disk : DiskState) (sector_size i : ℕ) : Type 0 where
  pub room : 512 ≤ disk.size
  pub marked : IsMarked (first_bytes disk)
  pub wrong : IsMisfit may_move (first_bytes disk) (sectors_of disk sector_size) i

-- Only the end, the start and the length of entry i changed, the latter are these, and nothing is unsynced.
pub record IsSet (i start length : ℕ) (old new : DiskState) : Type 0 where
  pub bytes : HasSpan i start length old.view new.view
  pub synced : new.pending ≡ []

-- Entry i was out of place. Unless this is a dry run, it is in place now.
pub record MendsEntry (may_move is_dry : Bool) (sector_size i : ℕ) (old new : DiskState) : Type 0 where
  pub need : IsInNeed may_move old sector_size i
  pub set : is_dry ≡ false → IsSet i (right_start may_move (first_bytes old) i)
      (right_length may_move (first_bytes old) (sectors_of old sector_size) i) old new

-- A new MBR is permitted, and there was none. Unless this is a dry run, a protective MBR is stored now.
pub record MakesMbr (may_make is_dry : Bool) (sector_size : ℕ) (old new : DiskState) : Type 0 where
  pub vacant : IsVacant (first_bytes old)
  pub may : IsTrue may_make
  pub made : is_dry ≡ false → IsMbrStored false (max sector_size 1) old new

-- The result describes the change made to the MBR.
abbrev pub IsChange : Bool → Bool → ℕ → MbrChange → DiskState → DiskState → Type 0
IsChange may_make is_dry sector_size Left old new = Reads old new
IsChange may_make is_dry sector_size Mended old new = (i : ℕ) × MendsEntry may_make is_dry sector_size i old new
IsChange may_make is_dry sector_size Made old new = MakesMbr may_make is_dry sector_size old new

-- There is an MBR or boot sector, without a protective entry that is the only one.
pub record IsForeign (b : List ℕ) : Type 0 where
  pub some : ¬ IsVacant b
  pub others : (i : ℕ) → ¬ IsOnlyProtective b i

-- The plan is right for an MBR of these bytes.
abbrev pub IsPlan : Bool → ℕ → List ℕ → Plan → Type 0
IsPlan may_make sectors b Leave = Unit {0}
IsPlan may_make sectors b (Mend misfit) = IsMarked b × IsMisfit may_make b sectors misfit.entry × (misfit.start ≡ right_start may_make b misfit.entry)
    × (misfit.length ≡ right_length may_make b sectors misfit.entry)
IsPlan may_make sectors b Make = IsVacant b × IsTrue may_make

-- The planned entry is one of the four.
abbrev pub HasPlace : Plan → Type 0
HasPlace (Mend misfit) = misfit.entry < 4
HasPlace _ = Unit {0}

-- The plan is carried out.
abbrev pub IsDone : Plan → ℕ → DiskState → DiskState → Type 0
IsDone Leave sector_size old new = Reads old new
IsDone (Mend misfit) sector_size old new = IsSet misfit.entry misfit.start misfit.length old new
IsDone Make sector_size old new = IsMbrStored false sector_size old new

-- The result of a plan.
abbrev pub change_of : Plan → MbrChange
change_of Leave = Left
change_of (Mend misfit) = Mended
change_of Make = Made
