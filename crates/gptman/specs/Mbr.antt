-- The protective MBR.
use Rattle.std.specs.Prelude.{◌≡◌, OnOk, Result, ℕ, ◌-◌, ◌/◌, Bool, List, [], ◌∷◌, ◌++◌, min, replicate, Option, nat_le, if◌then◌else◌}
use Rattle.byteorder.specs.Endian.{little_bytes}
use Rattle.gptman.specs.Answers.{Settles}
use Rattle.gptman_disk.specs.Disk.{overlay, DiskState, GrowsBy, IsHonest}
use Rattle.gptman_disk.specs.declared.error.Error.{Error}
use Rattle.gptman_disk.specs.Fault.{Fault, overflow, no_space_left, first_failing}

-- The 66 bytes from byte 446 on: one partition over all whole sectors but the first, three empty ones, and 55 aa.
unfoldable pub mbr_bytes : Bool → ℕ → ℕ → List ℕ
mbr_bytes bootable ss len =
    ((if bootable then 0x80 else 0) ∷ 0 ∷ 2 ∷ 0 ∷ 0xee ∷ 0xff ∷ 0xff ∷ 0xff ∷ 1 ∷ 0 ∷ 0 ∷ 0 ∷ [])
    ++ little_bytes 4 (min (len / ss - 1) 0xFFFFFFFF) ++ replicate 48 0 ++ (0x55 ∷ 0xaa ∷ [])

-- The error: `Overflow` if the disk is shorter than a sector, then `NoSpaceLeft` if it is shorter than 512 bytes.
abbrev pub mbr_fault : ℕ → ℕ → Option Fault
mbr_fault ss len = first_failing ((nat_le ss len, overflow) ∷ (nat_le 512 len, no_space_left) ∷ [])

-- The 66 bytes on the disk.
abbrev pub mbr_range : ℕ × ℕ
mbr_range = (446, 66)

-- The MBR is written, and unsynced.
pub record IsMbrWritten (bootable : Bool) (ss : ℕ) (old new : DiskState) : Type 0 where
  pub view : new.view ≡ overlay old.view 446 (mbr_bytes bootable ss old.size)
  pub pending : GrowsBy mbr_range old new

-- The result of writing an MBR.
abbrev pub AnswersMbr : {T : Type 0} → ℕ → Result T Error → DiskState → DiskState → Type 0
AnswersMbr ss result old new = Settles (mbr_fault ss old.size) result old new

-- On an honest disk, after `Ok` the MBR is written, and unsynced.
abbrev pub WritesMbr : {T E : Type 0} → Bool → ℕ → Result T E → DiskState → DiskState → Type 0
WritesMbr bootable ss result old new = IsHonest old → OnOk result (IsMbrWritten bootable ss old new)

-- The MBR is written, and nothing is unsynced.
pub record IsMbrStored (bootable : Bool) (ss : ℕ) (old new : DiskState) : Type 0 where
  pub view : new.view ≡ overlay old.view 446 (mbr_bytes bootable ss old.size)
  pub synced : new.pending ≡ []
