-- The bytes that are erased, so that a disk no longer looks like one with a table.
use Rattle.std.specs.Prelude.{◌≡◌, ◌≢◌, ◌≤◌, ◌<◌, ◌⊎◌, ◌+◌, ◌-◌, ◌*◌, ◌/◌, ℕ, List, [], ◌∷◌, length, get_or, nat_lt, Option, Some, None, Result, Ok, Err, if◌then◌else◌}
use Rattle.std.specs.Result.{result_ok}
use Rattle.gptman.specs.Answers.{IsFailure}
use Rattle.gptman.specs.Disk.{DiskState, Untouched, Writes}
use Rattle.gptman.specs.Fault.{Fault, out_of_memory}
use Rattle.gptman.specs.Ranges.{Inside}
use Rattle.gptman.specs.declared.codec.header.GPTHeader.{GPTHeader}
use Rattle.gptman.specs.declared.copy.WholeCopy.{WholeCopy}
use Rattle.gptman.specs.Error.{Error}
use Rattle.gptman.specs.Copy.{header_result}
use Rattle.gptedit_look.specs.Guard.{entries_size, last_of, IsIn, IsOfCopy}
use Rattle.gptedit_look.specs.declared.first_sector.MbrKind.{MbrKind}
use Rattle.gptedit_look.specs.declared.first_sector.MbrKind.TheVariants.{Protective}
use Rattle.gptedit_look.specs.declared.raw.RawHeader.{RawHeader}
use Rattle.gptedit_look.specs.declared.seen.Look.{Look}
use Rattle.gptedit_look.specs.declared.signatures.HeaderPlace.{HeaderPlace}
use Rattle.gptedit_look.specs.declared.signatures.HeaderPlace.TheVariants.{Start, End}
use Rattle.gptedit_look.specs.declared.signatures.Signature.{Signature}
use Rattle.gptedit_look.specs.declared.zeros.Zeroed.{Zeroed}

-- At any moment since `old`, only bytes with property P changed.
pub record WritesOnly (P : ℕ → Type 0) (old new : DiskState) : Type 0 where
  pub ranges : List (ℕ × ℕ)
  pub within : (k : ℕ) → Inside ranges k → P k
  pub wrote : Writes ranges old new

-- An allocation failed and nothing is written, or the disk failed.
abbrev pub IsFailureOrUnbegun : Fault → DiskState → DiskState → Type 0
IsFailureOrUnbegun fault old new = ((fault ≡ out_of_memory) × Untouched old new) ⊎ IsFailure fault old new

-- The n bytes from `start` are zero.
abbrev pub AreZeros : ℕ → ℕ → List ℕ → Type 0
AreZeros start n b = (k : ℕ) → IsIn start n k → get_or b k 0 ≡ 0

-- Each byte with property P is zero, and nothing is unsynced.
pub record IsCleared (P : ℕ → Type 0) (disk : DiskState) : Type 0 where
  pub zero : (k : ℕ) → P k → get_or disk.view k 0 ≡ 0
  pub synced : disk.pending ≡ []

-- Byte k is in the header of the copy, or in its entries if these are not in sectors 0 and 1.
abbrev pub IsOfWhole : GPTHeader → ℕ → ℕ → Type 0
IsOfWhole h ss k = IsIn (h.primary_lba * ss) 92 k ⊎ ((2 ≤ h.partition_entry_lba) × IsIn (h.partition_entry_lba * ss) (entries_size h) k)

-- The n bytes from sector `first` end at the start of this sector, or less than a sector before it.
abbrev pub EndsBefore : ℕ → ℕ → ℕ → ℕ → Type 0
EndsBefore sector first n ss = (first * ss + n ≤ sector * ss) × (sector * ss < first * ss + n + ss)

-- The entries are at their usual place: in sector 2 for a header in sector 1, else right before the header.
pub record HasUsualEntries (h : RawHeader) (ss : ℕ) : Type 0 where
  pub few : h.count ≤ 32768
  pub entry_size : h.entry_size ≡ 128
  pub behind : 2 ≤ h.entries_lba
  pub place : ((h.at / ss ≡ 1) × (h.entries_lba ≡ 2)) ⊎ ((h.at / ss ≢ 1) × EndsBefore (h.at / ss) h.entries_lba (128 * h.count) ss)

-- Byte k is in this header, which may be broken, or in its entries if they are at their usual place.
abbrev pub IsOfRaw : ℕ → ℕ → Option RawHeader → Type 0
IsOfRaw ss k None = ⊥
IsOfRaw ss k (Some h) = IsIn h.at 92 k ⊎ (HasUsualEntries h ss × IsIn (h.entries_lba * ss) (128 * h.count) k)

-- Byte k belongs to the good copy if its header names this sector as its own, else to the header found there.
abbrev pub IsOfOwn : GPTHeader → ℕ → ℕ → Option RawHeader → ℕ → Type 0
IsOfOwn h sector ss raw k = ((h.primary_lba ≡ sector) × IsOfWhole h ss k) ⊎ ((h.primary_lba ≢ sector) × IsOfRaw ss k raw)

-- Byte k belongs to the copy of this sector.
abbrev pub IsOfPlace : ℕ → ℕ → ℕ → Option RawHeader → Result WholeCopy Error → Type 0
IsOfPlace sector ss k raw (Ok copy) = IsOfOwn copy.header sector ss raw k
IsOfPlace sector ss k raw (Err e) = IsOfRaw ss k raw

-- Byte k is in one of the signatures.
abbrev pub IsOfSignature : ℕ → List Signature → Type 0
IsOfSignature k [] = ⊥
IsOfSignature k (signature ∷ signatures) = IsIn signature.at 8 k ⊎ IsOfSignature k signatures

-- Byte k is in the entries or the 55 AA of a protective MBR.
abbrev pub IsOfMbr : MbrKind → ℕ → Type 0
IsOfMbr Protective k = IsIn 446 66 k
IsOfMbr _ k = ⊥

-- Byte k belongs to one of the copies.
abbrev pub IsOfCopies : Look → ℕ → Type 0
IsOfCopies look k = IsOfPlace 1 look.sector_size k look.primary_header look.copies.primary
    ⊎ IsOfPlace (last_of look) look.sector_size k look.backup_header look.copies.backup

-- `wipe` erases byte k.
abbrev pub IsWiped : Look → ℕ → Type 0
IsWiped look k = ((IsOfCopies look k ⊎ IsOfRaw look.sector_size k look.moved_header) ⊎ IsOfSignature k look.signatures.items)
    ⊎ IsOfMbr look.first_sector.kind k

-- The first byte of the header at this place.
abbrev pub byte_of : HeaderPlace → ℕ → ℕ → ℕ
byte_of Start ss size = ss
byte_of End ss size = (size / ss - 1) * ss

-- The valid header at this byte, if there is one.
abbrev pub header_found : List ℕ → ℕ → Option GPTHeader
header_found b at = result_ok (header_result b at)

-- The valid header at this place, if there is one. A disk with fewer than 2 sectors has none.
abbrev pub header_in : HeaderPlace → ℕ → List ℕ → Option GPTHeader
header_in place ss b = if nat_lt 1 (length b / ss) then header_found b (byte_of place ss (length b)) else None

-- The signature does not overlap this copy.
abbrev pub IsApartFrom : Signature → ℕ → GPTHeader → Type 0
IsApartFrom signature ss h = (k : ℕ) → IsIn signature.at 8 k → ¬ IsOfCopy h ss k

-- The signature does not overlap this copy, if there is one.
abbrev pub IsClearOf : Signature → ℕ → Option GPTHeader → Type 0
IsClearOf signature ss (Some h) = IsApartFrom signature ss h
IsClearOf signature ss None = Unit {0}

-- The signature has another sector size and overlaps neither copy.
pub record IsBeside (one second : Option GPTHeader) (ss : ℕ) (signature : Signature) : Type 0 where
  pub other : signature.sector_size ≢ ss
  pub primary : IsClearOf signature ss one
  pub backup : IsClearOf signature ss second

-- Byte k is in a signature of another sector size that overlaps neither copy.
abbrev pub IsOfBeside : Option GPTHeader → Option GPTHeader → ℕ → ℕ → List Signature → Type 0
IsOfBeside primary backup ss k [] = ⊥
IsOfBeside primary backup ss k (signature ∷ signatures) =
    (IsBeside primary backup ss signature × IsIn signature.at 8 k) ⊎ IsOfBeside primary backup ss k signatures

-- Byte k is in a signature of another sector size that overlaps no copy with a valid header in these bytes.
abbrev pub IsOfOld : ℕ → List ℕ → List Signature → ℕ → Type 0
IsOfOld ss b signatures k = IsOfBeside (header_in Start ss b) (header_in End ss b) ss k signatures

-- Byte k is in a signature of another sector size.
abbrev pub IsOfOther : ℕ → ℕ → List Signature → Type 0
IsOfOther ss k [] = ⊥
IsOfOther ss k (signature ∷ signatures) = ((signature.sector_size ≢ ss) × IsIn signature.at 8 k) ⊎ IsOfOther ss k signatures

-- The ranges of this list.
abbrev pub ranges_in : List Zeroed → List (ℕ × ℕ)
ranges_in [] = []
ranges_in (r ∷ rs) = (r.start, r.length) ∷ ranges_in rs

-- The new list covers the bytes of the old one and those with property P, the latter at least below 2^64.
pub record Adds (P : ℕ → Type 0) (old new : List Zeroed) : Type 0 where
  pub only : (k : ℕ) → Inside (ranges_in new) k → Inside (ranges_in old) k ⊎ P k
  pub kept : (k : ℕ) → Inside (ranges_in old) k → Inside (ranges_in new) k
  pub all : (k : ℕ) → k < 18446744073709551616 → P k → Inside (ranges_in new) k
