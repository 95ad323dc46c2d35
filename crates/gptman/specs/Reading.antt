-- The read of a table: the copy at the primary place, or else the one at the backup place.
use Rattle.std.specs.Prelude.{ℕ, ◌-◌, ◌*◌, ◌/◌, ◌&&◌, true, false, List, length, nat_lt, Result, Ok, Err, if◌then◌else◌}
use Rattle.gptman_disk.specs.Fault.{Fault, invalid_signature, read_error, is_signature_fault}
use Rattle.gptman.specs.Copy.{Copy, copy_at}

pub data CopyPlace : Type 0 where
  primary : CopyPlace
  backup : CopyPlace

-- The first byte of a place on a disk of len bytes: that of sector 1, or of the last whole sector.
abbrev pub copy_start : CopyPlace → ℕ → ℕ → ℕ
copy_start primary len ss = ss
copy_start backup len ss = (len / ss - 1) * ss

-- The copy at a place, or its fault. A disk shorter than a sector has no backup place.
unfoldable pub copy_in : CopyPlace → List ℕ → ℕ → Result Copy Fault
copy_in primary b ss = copy_at b (copy_start primary (length b) ss) ss
copy_in backup b ss = elim (nat_lt (length b) ss) [ true ↦ Err invalid_signature | false ↦ copy_at b (copy_start backup (length b) ss) ss ]

-- The one error for the faults of both copies.
abbrev pub both : Fault → Fault → Fault
both first second = if is_signature_fault first && is_signature_fault second then invalid_signature else read_error first second

-- The result of a read after this fault of the primary copy: the backup copy, or the error for both faults.
abbrev pub fallback : List ℕ → ℕ → Fault → Result Copy Fault
fallback b ss first = elim (nat_lt (length b) ss) [
  | true ↦ Err invalid_signature
  | false ↦ elim (copy_in backup b ss) [ Ok copy ↦ Ok copy | Err second ↦ Err (both first second) ]
]

-- The result of a read of a disk with these bytes: the copy, or the error.
unfoldable pub reading_of : List ℕ → ℕ → Result Copy Fault
reading_of b ss = elim (copy_in primary b ss) [ Ok copy ↦ Ok copy | Err first ↦ fallback b ss first ]

-- The place from which the read returns its copy.
unfoldable pub taken_from : List ℕ → ℕ → CopyPlace
taken_from b ss = elim (copy_in primary b ss) [ Ok copy ↦ primary | Err fault ↦ backup ]

-- The sector size that is found: 4096 only if a read with 512 finds no signature.
unfoldable pub found_sector_size : List ℕ → ℕ
found_sector_size b = elim (reading_of b 512) [ Ok copy ↦ 512 | Err fault ↦ if is_signature_fault fault then 4096 else 512 ]
