-- A partition that is added to a table.
use Rattle.std.specs.Prelude.{◌≡◌, ◌≤◌, ◌<◌, ◌+◌, ◌-◌, ℕ, All, IsTrue}
use Rattle.gptman.specs.Entry.{is_unused, is_used}
use Rattle.gptman.specs.Fault.{Fault, no_space_left, out_of_memory}
use Rattle.gptman.specs.Number.{entry_at, with_entry, IsNumber}
use Rattle.gptman.specs.Place.{HasNoPlace, IsFirstPlace, IsFreeIn}
use Rattle.gptman.specs.Table.{entries_in}
use Rattle.gptman.specs.declared.codec.entry.GPTPartitionEntry.{GPTPartitionEntry}
use Rattle.gptman.specs.declared.table.GPT.{GPT}

-- The number of the first unused entry.
pub record IsFirstUnused (g : GPT) (number : ℕ) : Type 0 where
  pub is_number : IsNumber g number
  pub unused : IsTrue (is_unused (entry_at g number))
  pub earlier : (i : ℕ) → 1 ≤ i → i < number → IsTrue (is_used (entry_at g i))

-- every entry is used
abbrev pub AreAllUsed : GPT → Type 0
AreAllUsed g = All (λ e. IsTrue (is_used e)) (entries_in g)

-- the partition with size sectors from first
abbrev pub placed : GPTPartitionEntry → ℕ → ℕ → GPTPartitionEntry
placed partition size first = record partition { starting_lba = first; ending_lba = first + (size - 1) }

-- The first unused entry became the partition, in the first free place for its size.
pub record IsWith (partition : GPTPartitionEntry) (size : ℕ) (table next : GPT) (first : ℕ) : Type 0 where
  pub number : ℕ
  pub unused : IsFirstUnused table number
  pub place : IsFirstPlace (IsFreeIn table) table.align size first
  pub next_is : next ≡ with_entry table number (placed partition size first)

-- Why a table gets no partition: an allocation failed, no entry is unused, or there is no place.
pub data HasNoRoom (size : ℕ) (table : GPT) (fault : Fault) : Type 0 where
  no_memory : fault ≡ out_of_memory → HasNoRoom size table fault
  no_entry : AreAllUsed table → fault ≡ no_space_left → HasNoRoom size table fault
  no_place : HasNoPlace (IsFreeIn table) table.align size → fault ≡ no_space_left → HasNoRoom size table fault
