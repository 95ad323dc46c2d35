-- The effect of a new entry on a table, and what its maximum size offers.
use Prim.Native.Nat.{◌∣◌}
use Rattle.std.specs.Prelude.{◌≡◌, ◌≢◌, ℕ, ◌+◌, ◌<◌, ◌≤◌, IsTrue, List, All}
use Rattle.gptman.specs.Entry.{is_used}
use Rattle.gptman.specs.Number.{IsNumber, with_entry}
use Rattle.gptman.specs.Place.{IsFreeIn, IsPlace, IsMaximumSize, HasNoPlace}
use Rattle.gptman.specs.Table.{entries_in}
use Rattle.gptman.specs.Valid.{IsValid}
use Rattle.gptman.specs.declared.codec.entry.GPTPartitionEntry.{GPTPartitionEntry}
use Rattle.gptman.specs.declared.table.GPT.{GPT}

-- The entry has the n sectors from s on, and a unique GUID that no used entry has.
pub record IsNewAt (es : List GPTPartitionEntry) (e : GPTPartitionEntry) (s n : ℕ) : Type 0 where
  pub start : e.starting_lba ≡ s
  pub end : e.ending_lba + 1 ≡ s + n
  pub fresh : All (λ d. IsTrue (is_used d) → d.unique_partition_guid ≢ e.unique_partition_guid) es

-- A new entry at a place, with any number of the list, keeps a valid table valid.
abbrev pub PlacementKeepsValid : Type 0
PlacementKeepsValid = (g : GPT) (align n s i : ℕ) (e : GPTPartitionEntry) → IsValid g.header (entries_in g) → 1 ≤ n → IsPlace (IsFreeIn g) align n s
    → IsNumber g i → IsNewAt (entries_in g) e s n → IsValid g.header (entries_in (with_entry g i e))

-- m is a multiple of align; if m is above 0, there is a place for m sectors; and there is none for m + align.
pub record IsOffered (free : ℕ → Type 0) (align m : ℕ) : Type 0 where
  pub multiple : align ∣ m
  pub place : 0 < m → ¬ HasNoPlace free align m
  pub no_more : HasNoPlace free align (m + align)

-- The maximum size of a table is such a number (`IsOffered`).
abbrev pub MaximumIsOffered : Type 0
MaximumIsOffered = (g : GPT) (m : ℕ) → 0 < g.align → IsMaximumSize (IsFreeIn g) g.align m → IsOffered (IsFreeIn g) g.align m
