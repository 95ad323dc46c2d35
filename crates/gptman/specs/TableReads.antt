-- Results of reading a table.
use Rattle.std.specs.Prelude.{◌≡◌, ◌⊎◌, ◌&&◌, ℕ, Bool, true, false, List, Result, Ok, Err, IsErr}
use Rattle.gptman.specs.Answers.{answer_of, Refuses, is_damage}
use Rattle.gptman.specs.Copy.{Copy, IsCoherent}
use Rattle.gptman.specs.Alignment.{IsAlignment}
use Rattle.gptman_disk.specs.Disk.{DiskState, HasFailedAsOften, HasFailedOnceAtMost, IsHonest, Rose}
use Rattle.gptman_disk.specs.Fault.{Fault, io, invalid_signature, read_error, out_of_memory}
use Rattle.gptman.specs.Reading.{CopyPlace, primary, backup, copy_in, fallback, reading_of}
use Rattle.gptman.specs.Table.{entries_in}
use Rattle.gptman_disk.specs.declared.error.Error.{Error}
use Rattle.gptman.specs.declared.table.GPT.{GPT}

-- The errors of reading a table.
abbrev pub is_reading_fault : Fault → Bool
is_reading_fault io = true
is_reading_fault invalid_signature = true
is_reading_fault out_of_memory = true
is_reading_fault (read_error first second) = is_damage first && is_damage second
is_reading_fault _ = false

-- The copy of a value: its header and its entries.
abbrev pub copy_of : GPT → Copy
copy_of g = record { header = g.header; entries = entries_in g }

-- On an honest disk that did not fail, the result is this one, or `OutOfMemory`.
abbrev pub AnswersReading : Result Copy Fault → Result GPT Error → DiskState → DiskState → Type 0
AnswersReading answer result old new = IsHonest old → Rose old new ⊎ (Refuses result out_of_memory ⊎ (answer_of copy_of result ≡ answer))

-- A read with sectors of 512 bytes finds no signature.
abbrev pub ShowsNoSignature : List ℕ → Type 0
ShowsNoSignature b = reading_of b 512 ≡ Err invalid_signature

-- A value as a read makes it: its header describes its entries, and its alignment is derived from them.
pub record IsAsRead (g : GPT) : Type 0 where
  pub coherent : IsCoherent g.header (entries_in g)
  pub align : IsAlignment g.header (entries_in g) g.align

-- The copy is accepted at the primary place, or at the backup place if the primary copy is not accepted or the disk
-- failed.
abbrev pub MayBeRead : DiskState → DiskState → ℕ → Copy → Type 0
MayBeRead old new ss copy =
    (copy_in primary old.view ss ≡ Ok copy) ⊎ ((copy_in backup old.view ss ≡ Ok copy) × (IsErr (copy_in primary old.view ss) ⊎ Rose old new))

-- The disk did not fail; or it failed once, and the backup copy was read.
abbrev pub CountsReading : DiskState → DiskState → GPT → Type 0
CountsReading old new g = HasFailedAsOften old new ⊎ (HasFailedOnceAtMost old new × (copy_in backup old.view g.sector_size ≡ Ok (copy_of g)))

-- The fault of a copy, or `Io` because the disk failed.
abbrev pub IsCopyFault : CopyPlace → List ℕ → ℕ → Fault → Type 0
IsCopyFault side b ss fault = (fault ≡ io) ⊎ (copy_in side b ss ≡ Err fault)

-- The faults of both copies.
pub record AreBothFaults (b : List ℕ) (ss : ℕ) (fault : Fault) : Type 0 where
  pub first : Fault
  pub second : Fault
  pub is : fault ≡ read_error first second
  pub at_primary : IsCopyFault primary b ss first
  pub at_backup : IsCopyFault backup b ss second

-- The errors of a read, even if the disk failed.
abbrev pub IsReadingFault : List ℕ → ℕ → Fault → Type 0
IsReadingFault b ss fault = (fault ≡ io) ⊎ ((fault ≡ out_of_memory) ⊎ ((reading_of b ss ≡ Err fault) ⊎ AreBothFaults b ss fault))

-- The result of reading the backup copy after a fault of the primary one: that of the read, or `OutOfMemory`; or the
-- disk failed, in a seek or in the backup copy.
pub data FallsBack {T : Type 0} (result : Result T Error) (f : T → Copy) (b : List ℕ) (ss : ℕ) (first : Fault) (old new : DiskState) : Type 0 where
  read : answer_of f result ≡ fallback b ss first → FallsBack result f b ss first old new
  no_memory : Refuses result out_of_memory → FallsBack result f b ss first old new
  no_seek : Refuses result io → Rose old new → FallsBack result f b ss first old new
  no_backup : Refuses result (read_error first io) → Rose old new → FallsBack result f b ss first old new
