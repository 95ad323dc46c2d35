-- The result of writing a table, and what it leaves.
use Rattle.std.specs.Prelude.{◌≡◌, ◌≢◌, ◌⊎◌, ◌&&◌, ℕ, Bool, List, Option, None, Some, Result, IfErr}
use Rattle.std.specs.List.{list_all}
use Rattle.gptman.specs.Answers.{IsFailure, Refuses}
use Rattle.gptman.specs.Copy.{with_checksums}
use Rattle.gptman_disk.specs.Disk.{DiskState, IsHonest, OnlyRead}
use Rattle.gptman_disk.specs.Fault.{Fault, fault_of, io, no_space_left, overflow, out_of_memory}
use Rattle.gptman.specs.Write.{four_ranges, has_other_header, is_addressable, other_header, write_fault, HasBytes, SameButSums}
use Rattle.gptman.specs.Table.{entries_in}
use Rattle.gptman.specs.Valid.{IsValid, IsValidity}
use Rattle.gptman_disk.specs.declared.error.Error.{Error}
use Rattle.gptman.specs.declared.codec.header.GPTHeader.{GPTHeader}
use Rattle.gptman.specs.declared.table.GPT.{GPT}

-- The value with its checksums computed.
abbrev pub value_with_checksums : GPT → GPT
value_with_checksums g = record g { header = with_checksums g.header (entries_in g) }

-- The same value, except for the two checksums of its header.
abbrev pub IsButSums : GPT → GPT → Type 0
IsButSums g new = (new ≡ record g { header = new.header }) × SameButSums g.header new.header

-- The header of the other copy, with its checksums.
abbrev pub other_with_checksums : GPT → GPTHeader
other_with_checksums g = with_checksums (other_header g.header) (entries_in g)

-- Both copies start and end below byte 2^64.
abbrev pub is_addressable_table : GPT → Bool
is_addressable_table g = has_other_header g.header && list_all is_addressable (four_ranges g.header g.sector_size)

-- The error of writing a valid value to a disk of len bytes.
abbrev pub table_write_fault : GPT → ℕ → Option Fault
table_write_fault g len = write_fault g.header g.sector_size len

-- There is room for both copies.
abbrev pub HasRoomOn : GPT → ℕ → Type 0
HasRoomOn g len = table_write_fault g len ≡ None

-- The ranges of both copies of a value.
abbrev pub table_ranges : GPT → List (ℕ × ℕ)
table_ranges g = four_ranges g.header g.sector_size

-- An error other than `NoSpaceLeft` is returned whatever the disk does.
abbrev pub RefusesAtOnce : {T : Type 0} → Option Fault → Result T Error → Type 0
RefusesAtOnce refusal result = (fault : Fault) → refusal ≡ Some fault → (fault ≡ no_space_left) ⊎ Refuses result fault

-- On an honest disk, a call that returns an error other than `Io` has only read.
abbrev pub RefusesUnwritten : {T : Type 0} → Result T Error → DiskState → DiskState → Type 0
RefusesUnwritten result old new = IsHonest old → IfErr result (λ e. (fault_of e ≡ io) ⊎ OnlyRead old new)

-- The view has the value's own copy, and the copy of this header with the same entries.
abbrev pub HasBothCopies : List ℕ → GPT → GPTHeader → Type 0
HasBothCopies b g h = HasBytes b g.header (entries_in g) g.sector_size × HasBytes b h (entries_in g) g.sector_size

-- A table that may be written to a disk of len bytes.
pub record MayBeWritten (g : GPT) (len : ℕ) : Type 0 where
  pub valid : IsValid g.header (entries_in g)
  pub room : HasRoomOn g len

-- Why a write of a table fails: allocation fails in its checks, it is not valid, there is no room for it, or the disk
-- failed.
pub data RefusesWrite (g : GPT) (fault : Fault) (old new : DiskState) : Type 0 where
  no_memory : fault ≡ out_of_memory → RefusesWrite g fault old new
  not_valid : IsValidity g.header (entries_in g) (Some fault) → RefusesWrite g fault old new
  no_room : IsValid g.header (entries_in g) → table_write_fault g old.size ≡ Some fault → RefusesWrite g fault old new
  disk_failed : IsValid g.header (entries_in g) → table_write_fault g old.size ≢ Some overflow → IsFailure fault old new → RefusesWrite g fault old new

-- Why a table may not be written to a disk of len bytes, or cannot be checked: allocation fails, it is not valid, or
-- there is no room for it.
pub data RefusesTable (g : GPT) (len : ℕ) (fault : Fault) : Type 0 where
  table_no_memory : fault ≡ out_of_memory → RefusesTable g len fault
  table_not_valid : IsValidity g.header (entries_in g) (Some fault) → RefusesTable g len fault
  table_no_room : IsValid g.header (entries_in g) → table_write_fault g len ≡ Some fault → RefusesTable g len fault

-- The errors of writing a valid table with room on the disk.
abbrev pub IsFailureOrMemory : Fault → DiskState → DiskState → Type 0
IsFailureOrMemory fault old new = (fault ≡ out_of_memory) ⊎ IsFailure fault old new

-- The error does not mean a lack of room.
abbrev pub IsNotForRoom : Fault → Type 0
IsNotForRoom fault = (fault ≢ overflow) × (fault ≢ no_space_left)
