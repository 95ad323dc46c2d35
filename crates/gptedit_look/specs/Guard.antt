-- The bytes that a write of a table may overwrite.
use Rattle.std.specs.Prelude.{◌≡◌, ◌≤◌, ◌<◌, ◌⊎◌, ◌+◌, ◌-◌, ◌*◌, ◌/◌, ℕ, List, All, get_or, max, Option, Some, None, Result, Ok, Err}
use Rattle.gptman.specs.Ranges.{Inside}
use Rattle.gptman.specs.declared.codec.header.GPTHeader.{GPTHeader}
use Rattle.gptman.specs.declared.copy.WholeCopy.{WholeCopy}
use Rattle.gptman.specs.Error.{Error}
use Rattle.gptman.specs.TableWrites.{table_ranges}
use Rattle.gptman.specs.declared.table.GPT.{GPT}
use Rattle.gptedit_look.specs.declared.marks.Content.{Content}
use Rattle.gptedit_look.specs.declared.raw.RawHeader.{RawHeader}
use Rattle.gptedit_look.specs.declared.seen.Look.{Look}
use Rattle.gptedit_look.specs.declared.seen.Purpose.{Purpose}
use Rattle.gptedit_look.specs.declared.seen.Purpose.TheVariants.{Repair, Fit, New}

-- Byte k is one of the `length` bytes from `start`.
abbrev pub IsIn : ℕ → ℕ → ℕ → Type 0
IsIn start length k = (start ≤ k) × (k < start + length)

-- The size of a header's entries in bytes.
abbrev pub entries_size : GPTHeader → ℕ
entries_size h = 128 * h.number_of_partition_entries

-- Byte k is in the header or the entries of the copy with this header.
abbrev pub IsOfCopy : GPTHeader → ℕ → ℕ → Type 0
IsOfCopy h ss k = IsIn (h.primary_lba * ss) 92 k ⊎ IsIn (h.partition_entry_lba * ss) (entries_size h) k

-- A write of this table touches byte k, by the contract of `GPT::write_into`.
abbrev pub IsWritten : GPT → ℕ → Type 0
IsWritten g k = Inside (table_ranges g) k

-- The copy is good, and its header names this sector as its own.
abbrev pub IsGoodIn : ℕ → Result WholeCopy Error → Type 0
IsGoodIn sector (Ok copy) = copy.header.primary_lba ≡ sector
IsGoodIn sector (Err e) = ⊥

-- The copy is good, its header names this sector as its own, and k belongs to it.
abbrev pub IsOwnOf : ℕ → ℕ → ℕ → Result WholeCopy Error → Type 0
IsOwnOf sector ss k (Ok copy) = (copy.header.primary_lba ≡ sector) × IsOfCopy copy.header ss k
IsOwnOf sector ss k (Err e) = ⊥

-- The last whole sector.
abbrev pub last_of : Look → ℕ
last_of look = look.size / look.sector_size - 1

-- Byte k belongs to a good copy, by that copy's header.
abbrev pub IsOwn : Look → ℕ → Type 0
IsOwn look k = IsOwnOf 1 look.sector_size k look.copies.primary ⊎ IsOwnOf (last_of look) look.sector_size k look.copies.backup

-- Byte k is in these contents, or in their first 512 bytes if the end is unknown.
abbrev pub IsSpanned : Content → ℕ → Type 0
IsSpanned content k = (content.start ≤ k) × elim content.end [ Some end ↦ k < end | None ↦ k < content.start + 512 ]

-- Byte k is in contents that do not begin in a good copy.
abbrev pub IsContent : Look → ℕ → Content → Type 0
IsContent look k content = IsSpanned content k × (¬ IsOwn look content.start)

-- Byte k is in the footer.
abbrev pub IsFooter : ℕ → Option Content → Type 0
IsFooter k (Some footer) = IsSpanned footer k
IsFooter k None = ⊥

-- Byte k is in no recognised contents and not in the footer.
abbrev pub IsUnknown : Look → ℕ → Type 0
IsUnknown look k = All (λ (content : Content). ¬ IsContent look k content) look.contents.items × (¬ IsFooter k look.footer)

-- Byte k belongs to the other copy, by this header. The other entries begin after sector `before`.
abbrev pub IsOfOther : GPTHeader → ℕ → ℕ → ℕ → Type 0
IsOfOther h before ss k = IsIn (h.backup_lba * ss) 92 k ⊎ IsIn ((before + 1) * ss) (entries_size h) k

-- Byte k is in a usable sector.
abbrev pub IsUsable : GPTHeader → ℕ → ℕ → Type 0
IsUsable h ss k = (h.first_usable_lba * ss ≤ k) × (k < (h.last_usable_lba + 1) * ss)

-- A header is in the sector that this header names for the other copy, and has its disk GUID.
abbrev pub IsOfTable : GPTHeader → ℕ → Option RawHeader → Type 0
IsOfTable h ss (Some there) = (there.disk_guid ≡ h.disk_guid) × (there.at ≡ h.backup_lba * ss)
IsOfTable h ss None = ⊥

-- The write is a repair.
abbrev pub IsRepair : Purpose → Type 0
IsRepair Repair = Unit {0}
IsRepair _ = ⊥

-- A header of this table is still at the place of the other copy; or the write is a repair, and nothing recognised
-- contains byte k.
abbrev pub IsReplaced : Look → Purpose → GPTHeader → Option RawHeader → Option RawHeader → ℕ → Type 0
IsReplaced look purpose h there moved k =
    IsOfTable h look.sector_size there ⊎ (IsOfTable h look.sector_size moved ⊎ (IsRepair purpose × IsUnknown look k))

-- Byte k belongs to the backup copy, by the good primary header, outside the usable sectors, and may be replaced.
abbrev pub GivesBackup : Look → Purpose → ℕ → Result WholeCopy Error → Type 0
GivesBackup look purpose k (Ok copy) = (copy.header.primary_lba ≡ 1)
    × IsOfOther copy.header copy.header.last_usable_lba look.sector_size k × (¬ IsUsable copy.header look.sector_size k)
    × IsReplaced look purpose copy.header look.backup_header look.moved_header k
GivesBackup look purpose k (Err e) = ⊥

-- Byte k belongs to the primary copy, by the good backup header, outside the usable sectors, and may be replaced.
abbrev pub GivesPrimary : Look → Purpose → ℕ → Result WholeCopy Error → Type 0
GivesPrimary look purpose k (Ok copy) = (copy.header.primary_lba ≡ last_of look)
    × IsOfOther copy.header 1 look.sector_size k × (¬ IsUsable copy.header look.sector_size k)
    × IsReplaced look purpose copy.header look.primary_header None k
GivesPrimary look purpose k (Err e) = ⊥

-- Byte k belongs to a broken copy, by the good copy's header, and may be replaced.
abbrev pub IsGiven : Look → Purpose → ℕ → Type 0
IsGiven look purpose k = ((¬ IsGoodIn (last_of look) look.copies.backup) × GivesBackup look purpose k look.copies.primary)
    ⊎ ((¬ IsGoodIn 1 look.copies.primary) × GivesPrimary look purpose k look.copies.backup)

-- Byte k belongs to the backup copy of this table, in the stated layout.
abbrev pub IsOfBackup : GPT → ℕ → Type 0
IsOfBackup g k = IsIn (max g.header.primary_lba g.header.backup_lba * g.sector_size) 92 k
    ⊎ IsIn ((g.header.last_usable_lba + 1) * g.sector_size) (entries_size g.header) k

-- A copy gets a new place at byte k: anywhere for a new table, and in the backup copy for one that is fitted.
abbrev pub GetsPlace : GPT → ℕ → Purpose → Type 0
GetsPlace next k New = Unit {0}
GetsPlace next k Fit = IsOfBackup next k
GetsPlace next k _ = ⊥

-- The write may overwrite byte k, whatever its value.
abbrev pub IsAllowed : Look → Purpose → GPT → ℕ → Type 0
IsAllowed look purpose next k = IsOwn look k ⊎ (IsGiven look purpose k ⊎ (GetsPlace next k purpose × IsUnknown look k))

-- The write may overwrite byte k on a disk with these bytes: it is zero or allowed.
abbrev pub MayBeOverwritten : Look → Purpose → GPT → List ℕ → ℕ → Type 0
MayBeOverwritten look purpose next b k = (get_or b k 0 ≡ 0) ⊎ IsAllowed look purpose next k

-- The write may overwrite each byte from `start` to `end`, exclusive.
abbrev pub AreFree : Look → Purpose → GPT → List ℕ → ℕ → ℕ → Type 0
AreFree look purpose next b start end = (k : ℕ) → start ≤ k → k < end → MayBeOverwritten look purpose next b k

-- Byte k is between `start` and `end`, and the write may not overwrite it.
abbrev pub IsRefused : Look → Purpose → GPT → List ℕ → ℕ → ℕ → ℕ → Type 0
IsRefused look purpose next b start end k = (start ≤ k) × (k < end) × (¬ MayBeOverwritten look purpose next b k)
