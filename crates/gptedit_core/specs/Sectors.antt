-- Ranges of sectors, and slots as the library lists them.
use Rattle.std.specs.Prelude.{ℕ, List, map}
use Rattle.gptedit_core.specs.declared.sectors.SectorRange.{SectorRange}
use Rattle.gptedit_core.specs.declared.sectors.Slot.{Slot}

-- The sectors from first to last.
abbrev pub between : ℕ → ℕ → SectorRange
between first last = record { first = first; last = last }

-- A slot in a list of the library: (start, length).
abbrev pub pair_of : Slot → ℕ × ℕ
pair_of slot = (slot.start, slot.length)

abbrev pub pairs_of : List Slot → List (ℕ × ℕ)
pairs_of slots = map pair_of slots
