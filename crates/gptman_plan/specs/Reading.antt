-- A read of a table, given only the ends of the disk.
use Rattle.std.specs.Prelude.{◌≡◌, ◌≤◌, ◌<◌, ◌⊎◌, ◌+◌, ℕ, Bool, true, false, List, Ok, Err}
use Rattle.gptman.specs.Copy.{array_result, copy_at, header_result}
use Rattle.gptman.specs.Fault.{fault_of, out_of_memory}
use Rattle.gptman.specs.Layout.{IsLaidOut}
use Rattle.gptman.specs.Reading.{CopyPlace, primary, backup, reading_of, taken_from}
use Rattle.gptman.specs.Table.{table_in, IsHeaderForm}
use Rattle.gptman.specs.TableReads.{copy_of, IsAsRead}
use Rattle.gptman.specs.declared.codec.header.GPTHeader.{GPTHeader}
use Rattle.gptman.specs.declared.table.GPT.{GPT}
use Rattle.gptman_plan.specs.Ends.{HaveRange, IsDiskOf, zeroed}
use Rattle.gptman_plan.specs.Rounds.{IsAmong, reading_ranges}
use Rattle.gptman_plan.specs.declared.ends.Ends.{Ends}
use Rattle.gptman_plan.specs.declared.reading.Lack.{Lack}
use Rattle.gptman_plan.specs.declared.reading.SelectedPlace.{SelectedPlace}
use Rattle.gptman_plan.specs.declared.reading.SelectedPlace.TheVariants.{At, Unknown}
use Rattle.gptman_plan.specs.declared.reading.Reading.{Reading}
use Rattle.gptman_plan.specs.declared.reading.Reading.TheVariants.{Table, Fault, Lacks}

-- the property holds for every disk with these ends
abbrev pub OfEvery : Ends → (List ℕ → Type 0) → Type 0
OfEvery ends P = (b : List ℕ) → IsDiskOf ends b → P b

-- the range is on the disk, and neither end has all of it
abbrev pub IsLack : Ends → Lack → Type 0
IsLack ends lack = (¬ HaveRange ends (lack.from, lack.length)) × (lack.from + lack.length ≤ ends.size)

-- Neither end has all of the range, which is one of these places on every disk with these ends.
pub record IsLackOf (places : List ℕ → List (ℕ × ℕ)) (ends : Ends) (lack : Lack) : Type 0 where
  pub lacking : IsLack ends lack
  pub among : OfEvery ends (λ b. IsAmong (lack.from, lack.length) (places b))

-- every disk with these ends has at byte p the same header, or the same fault, as the disk with zeros
abbrev pub IsHeaderKnown : Ends → ℕ → Type 0
IsHeaderKnown ends p = OfEvery ends (λ b. header_result b p ≡ header_result (zeroed ends) p)

-- every disk with these ends has the same entries for this header, or the same fault, as the disk with zeros
abbrev pub IsArrayKnown : Ends → ℕ → GPTHeader → Type 0
IsArrayKnown ends ss h = OfEvery ends (λ b. array_result b ss h ≡ array_result (zeroed ends) ss h)

-- every disk with these ends has at byte p the same copy, or the same fault, as the disk with zeros
abbrev pub IsCopyKnown : Ends → ℕ → ℕ → Type 0
IsCopyKnown ends p ss = OfEvery ends (λ b. copy_at b p ss ≡ copy_at (zeroed ends) p ss)

abbrev pub copy_place_of : Bool → CopyPlace
copy_place_of true = backup
copy_place_of false = primary

-- A read of every disk with these ends has the same result, from this place, as a read of the disk with zeros.
pub record IsKnownAt (ends : Ends) (ss : ℕ) (side : CopyPlace) : Type 0 where
  pub reading : OfEvery ends (λ b. reading_of b ss ≡ reading_of (zeroed ends) ss)
  pub from : OfEvery ends (λ b. taken_from b ss ≡ side)

-- the place of the copy that a read selects, or a range that the ends do not have
abbrev pub IsPlace : Ends → ℕ → SelectedPlace → Type 0
IsPlace ends ss (At is_backup) = IsKnownAt ends ss (copy_place_of is_backup)
IsPlace ends ss (Unknown lack) = IsLackOf (λ b. reading_ranges b ss) ends lack

-- A read of every disk with these ends returns this table, from this place.
pub record IsTable (ends : Ends) (ss : ℕ) (table : GPT) (is_backup : Bool) : Type 0 where
  pub reading : OfEvery ends (λ b. reading_of b ss ≡ Ok (copy_of table))
  pub from : OfEvery ends (λ b. taken_from b ss ≡ copy_place_of is_backup)
  pub sector : table.sector_size ≡ ss
  pub value : IsAsRead table
  pub align : 0 < table.align

-- A read of every disk with these ends returns this table, from a copy in the form of its place, and the table has the
-- stated layout.
pub record IsStatedTable (ends : Ends) (ss : ℕ) (table : GPT) : Type 0 where
  pub is_backup : Bool
  pub read : IsTable ends ss table is_backup
  pub form : IsHeaderForm (copy_place_of is_backup) table.header
  pub laid_out : IsLaidOut (table_in table) ss ends.size

-- The result of a read: the same table or fault for every disk with these ends, or a range that they do not have.
abbrev pub IsReading : Ends → ℕ → Reading → Type 0
IsReading ends ss (Table table is_backup) = IsTable ends ss table is_backup
IsReading ends ss (Fault e) = (fault_of e ≡ out_of_memory) ⊎ OfEvery ends (λ b. reading_of b ss ≡ Err (fault_of e))
IsReading ends ss (Lacks lack) = IsLackOf (λ b. reading_ranges b ss) ends lack
