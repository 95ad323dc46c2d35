-- Free sectors, runs of them, aligned slots, and the places that they offer.
use Prim.Native.Nat.{◌∣◌}
use Rattle.std.specs.Prelude.{◌≡◌, ℕ, ◌+◌, ◌-◌, ◌%◌, ◌^◌, max, Option, IfSome, MatchOption, ◌<◌, ◌≤◌, IsTrue, List, All, AllPairs, Contains}
use Rattle.gptman.specs.Entry.{covers}
use Rattle.gptman.specs.Table.{entries_in}
use Rattle.gptman.specs.declared.codec.header.GPTHeader.{GPTHeader}
use Rattle.gptman.specs.declared.codec.entry.GPTPartitionEntry.{GPTPartitionEntry}
use Rattle.gptman.specs.declared.table.GPT.{GPT}

-- The sector is within the header's bounds, and is not sector 0.
pub record IsUsable (h : GPTHeader) (sector : ℕ) : Type 0 where
  pub positive : 1 ≤ sector
  pub low : h.first_usable_lba ≤ sector
  pub high : sector ≤ h.last_usable_lba

-- The sector is usable, and no used entry covers it.
pub record IsFree (h : GPTHeader) (es : List GPTPartitionEntry) (sector : ℕ) : Type 0 where
  pub usable : IsUsable h sector
  pub uncovered : All (λ e. ¬ IsTrue (covers sector e)) es

-- The free sectors of a value.
abbrev pub IsFreeIn : GPT → ℕ → Type 0
IsFreeIn g = IsFree g.header (entries_in g)

-- The sectors from a to b are free, and neither neighbour is.
pub record IsRun (free : ℕ → Type 0) (a b : ℕ) : Type 0 where
  pub ordered : a ≤ b
  pub inside : (x : ℕ) → a ≤ x → x ≤ b → free x
  pub before : (x : ℕ) → x + 1 ≡ a → ¬ free x
  pub after : ¬ free (b + 1)

-- s is the first multiple of align from a on
pub record IsFirstMultiple (align a s : ℕ) : Type 0 where
  pub multiple : align ∣ s
  pub from : a ≤ s
  pub least : (t : ℕ) → align ∣ t → a ≤ t → s ≤ t

-- The n sectors from s on are a run without the sectors before its first multiple of align.
pub record IsAlignedSlot (free : ℕ → Type 0) (align s n : ℕ) : Type 0 where
  pub first : ℕ
  pub last : ℕ
  pub run : IsRun free first last
  pub start : IsFirstMultiple align first s
  pub within : s ≤ last
  pub long : s + n ≡ last + 1

-- The list has exactly the aligned slots, as (start, length), by ascending start.
pub record AreSlots (free : ℕ → Type 0) (align : ℕ) (slots : List (ℕ × ℕ)) : Type 0 where
  pub each : All (λ s. IsAlignedSlot free align s.0 s.1) slots
  pub every : (s n : ℕ) → IsAlignedSlot free align s n → Contains slots (s, n)
  pub ascending : AllPairs (λ s t. s.0 < t.0) slots

-- There is no aligned slot.
abbrev pub HasNoSlot : (ℕ → Type 0) → ℕ → Type 0
HasNoSlot free align = (s n : ℕ) → ¬ IsAlignedSlot free align s n

-- s is a multiple of align, and the n sectors from s on are free.
pub record IsPlace (free : ℕ → Type 0) (align n s : ℕ) : Type 0 where
  pub multiple : align ∣ s
  pub inside : (x : ℕ) → s ≤ x → x < s + n → free x

-- There is no place for n sectors.
abbrev pub HasNoPlace : (ℕ → Type 0) → ℕ → ℕ → Type 0
HasNoPlace free align n = (s : ℕ) → ¬ IsPlace free align n s

-- The lowest place for n sectors.
pub record IsFirstPlace (free : ℕ → Type 0) (align n s : ℕ) : Type 0 where
  pub place : IsPlace free align n s
  pub least : (t : ℕ) → IsPlace free align n t → s ≤ t

-- The highest place for n sectors.
pub record IsLastPlace (free : ℕ → Type 0) (align n s : ℕ) : Type 0 where
  pub place : IsPlace free align n s
  pub greatest : (t : ℕ) → IsPlace free align n t → t ≤ s

-- s is the start of the shortest aligned slot of at least n sectors, the leftmost if several are as short.
pub record IsBestPlace (free : ℕ → Type 0) (align n s : ℕ) : Type 0 where
  pub long : ℕ
  pub slot : IsAlignedSlot free align s long
  pub fits : n ≤ long
  pub shortest : (t k : ℕ) → IsAlignedSlot free align t k → n ≤ k → long ≤ k
  pub leftmost : (t : ℕ) → IsAlignedSlot free align t long → s ≤ t

-- The largest multiple of align that an aligned slot has room for.
pub record IsMaximumSize (free : ℕ → Type 0) (align m : ℕ) : Type 0 where
  pub start : ℕ
  pub long : ℕ
  pub slot : IsAlignedSlot free align start long
  pub is : m ≡ long - long % align
  pub greatest : (t k : ℕ) → IsAlignedSlot free align t k → k - k % align ≤ m

-- The search for `size` sectors, at least one, finds such a place in the value, or there is none.
abbrev pub FindsPlace : ((ℕ → Type 0) → ℕ → ℕ → ℕ → Type 0) → GPT → ℕ → Option ℕ → Type 0
FindsPlace IsSuch g size found = MatchOption found (HasNoPlace (IsFreeIn g) g.align (max 1 size)) (IsSuch (IsFreeIn g) g.align (max 1 size))

-- The last of the `size` sectors that were found fits in 64 bits.
abbrev pub EndsIn64Bits : ℕ → Option ℕ → Type 0
EndsIn64Bits size found = IfSome found (λ s. s + max 1 size ≤ 2 ^ 64)
