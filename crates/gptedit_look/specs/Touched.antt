-- The bytes that a write of a table touches.
use Rattle.std.specs.Prelude.{◌≤◌, ◌<◌, ◌⊎◌, ℕ}
use Rattle.gptedit_look.specs.declared.touched.Touched.{Touched}
use Rattle.gptedit_look.specs.declared.touched.TouchedCopy.{TouchedCopy}
use Rattle.gptedit_look.specs.declared.touched.TouchedTable.{TouchedTable}

-- Byte k is in the range.
abbrev pub IsTouched : Touched → ℕ → Type 0
IsTouched range k = (range.start ≤ k) × (k < range.end)

-- Byte k is in a range of this copy.
abbrev pub IsTouchedIn : TouchedCopy → ℕ → Type 0
IsTouchedIn copy k = IsTouched copy.header k ⊎ IsTouched copy.entries k

-- Byte k is in a range of either copy.
abbrev pub IsTouchedOf : TouchedTable → ℕ → Type 0
IsTouchedOf table k = IsTouchedIn table.own k ⊎ IsTouchedIn table.other k

-- The ranges of the copy end within `size` bytes.
pub record EndsWithin (copy : TouchedCopy) (size : ℕ) : Type 0 where
  pub header : copy.header.end ≤ size
  pub entries : copy.entries.end ≤ size
