-- The sectors that a place becomes.
use Prim.Native.Nat.{◌∣◌}
use Rattle.std.specs.Prelude.{◌≡◌, ◌≤◌, ◌<◌, ◌⊎◌, ℕ, ◌+◌, ◌-◌, ◌%◌, ◌&&◌, max, nat_le, nat_lt, if◌then◌else◌, Option, MatchOption}
use Rattle.gptman.specs.Place.{HasNoPlace, HasNoSlot, IsAlignedSlot, IsBestPlace, IsFirstMultiple, IsFirstPlace, IsFreeIn, IsLastPlace, IsMaximumSize}
use Rattle.gptman.specs.declared.table.GPT.{GPT}
use Rattle.gptedit_core.specs.Sectors.{between}
use Rattle.gptedit_core.specs.declared.asked.Choice.{Choice}
use Rattle.gptedit_core.specs.declared.asked.Choice.TheVariants.{First, Last, Best, Longest as InLongest}
use Rattle.gptedit_core.specs.declared.place.Place.{Place}
use Rattle.gptedit_core.specs.declared.place.Place.TheVariants.{At, From, Free, Longest}
use Rattle.gptedit_core.specs.declared.sectors.SectorRange.{SectorRange}

-- The last sector, moved down to the one before a multiple of align, unless no sector would be left.
abbrev pub trimmed : ℕ → ℕ → ℕ → ℕ
trimmed align first last =
    let spare = last % align + 1 in
    if nat_lt spare align && nat_le (first + spare) last then last - spare else last

-- The longest run of free sectors, the first of equals, by its start and its length.
pub record IsLongestRun (free : ℕ → Type 0) (start long : ℕ) : Type 0 where
  pub run : IsAlignedSlot free 1 start long
  pub longest : (t k : ℕ) → IsAlignedSlot free 1 t k → k ≤ long
  pub leftmost : (t : ℕ) → IsAlignedSlot free 1 t long → start ≤ t

-- s is the first multiple of align from the start of the longest run on, and the run ends before sector end.
pub record IsStartInLongest (free : ℕ → Type 0) (align s end : ℕ) : Type 0 where
  pub start : ℕ
  pub long : ℕ
  pub longest : IsLongestRun free start long
  pub first : IsFirstMultiple align start s
  pub is : start + long ≡ end

-- The n sectors from s, the first multiple of align in the longest run, are within the run.
abbrev pub IsLongestPlace : (ℕ → Type 0) → ℕ → ℕ → ℕ → Type 0
IsLongestPlace free align n s = (end : ℕ) × IsStartInLongest free align s end × (s + n ≤ end)

-- There is no run, or the longest one has fewer than n sectors from its first multiple of align on.
abbrev pub HasNoLongestPlace : (ℕ → Type 0) → ℕ → ℕ → Type 0
HasNoLongestPlace free align n = HasNoSlot free 1 ⊎ ((s end : ℕ) × IsStartInLongest free align s end × (end < s + n))

-- s is the chosen place for n sectors.
abbrev pub IsChosen : Choice → (ℕ → Type 0) → ℕ → ℕ → ℕ → Type 0
IsChosen First free align n s = IsFirstPlace free align n s
IsChosen Last free align n s = IsLastPlace free align n s
IsChosen Best free align n s = IsBestPlace free align n s
IsChosen InLongest free align n s = IsLongestPlace free align n s

-- There is no place for n sectors by this choice.
abbrev pub HasNoneChosen : Choice → (ℕ → Type 0) → ℕ → ℕ → Type 0
HasNoneChosen First free align n = HasNoPlace free align n
HasNoneChosen Last free align n = HasNoPlace free align n
HasNoneChosen Best free align n = HasNoPlace free align n
HasNoneChosen InLongest free align n = HasNoLongestPlace free align n

-- The run contains the sector.
abbrev pub HasSector : ℕ → ℕ → ℕ → Type 0
HasSector s start long = (start ≤ s) × (s < start + long)

-- last is the last sector of the run of free sectors that contains s.
pub record IsRunWith (free : ℕ → Type 0) (s last : ℕ) : Type 0 where
  pub start : ℕ
  pub long : ℕ
  pub run : IsAlignedSlot free 1 start long
  pub from : start ≤ s
  pub within : s ≤ last
  pub end : start + long ≡ last + 1

-- No run of free sectors contains s.
abbrev pub HasNoRunWith : (ℕ → Type 0) → ℕ → Type 0
HasNoRunWith free s = (start long : ℕ) → IsAlignedSlot free 1 start long → ¬ HasSector s start long

-- e is the last sector up to far that is directly before a multiple of align.
pub record IsLastEnd (align far e : ℕ) : Type 0 where
  pub low : e ≤ far
  pub multiple : align ∣ e + 1
  pub greatest : (t : ℕ) → align ∣ t + 1 → t ≤ far → t ≤ e

-- No sector up to far is directly before a multiple of align.
abbrev pub HasNoEnd : ℕ → ℕ → Type 0
HasNoEnd align far = (t : ℕ) → align ∣ t + 1 → ¬ (t ≤ far)

-- The sectors after last and up to end are free.
abbrev pub AreFreeBehind : (ℕ → Type 0) → ℕ → ℕ → Type 0
AreFreeBehind free last end = (x : ℕ) → last < x → x ≤ end → free x

-- A sector after last and up to end is not free.
abbrev pub IsBlocked : (ℕ → Type 0) → ℕ → ℕ → Type 0
IsBlocked free last end = (x : ℕ) × (last < x) × (x ≤ end) × (¬ free x)

-- A partition from first to last that is lengthened ends at end: where it ended, or after free sectors and before a
-- multiple of align; and it could not end at a later such sector. One that ends before it starts is unchanged.
pub record IsFurthestEnd (free : ℕ → Type 0) (align first last end : ℕ) : Type 0 where
  pub kept : last ≤ end
  pub reached : (end ≡ last) ⊎ ((first ≤ last) × (align ∣ end + 1) × AreFreeBehind free last end)
  pub furthest : first ≤ last → (e : ℕ) → align ∣ e + 1 → end < e → IsBlocked free last e

-- The span has n sectors, at least one, at the chosen place.
abbrev pub IsFreeSpan : Choice → ℕ → GPT → SectorRange → Type 0
IsFreeSpan choice n g span = IsChosen choice (IsFreeIn g) g.align (max 1 n) span.first × (span.last ≡ span.first + (max 1 n - 1))

-- The sectors, from the first to the last, that the place becomes in the table.
abbrev pub IsSpan : Place → GPT → SectorRange → Type 0
IsSpan (At first last) g span = span ≡ between first last
IsSpan (From first) g span = (last : ℕ) × IsRunWith (IsFreeIn g) first last × (span ≡ between first (trimmed g.align first last))
IsSpan (Free size choice) g span = IsFreeSpan choice size g span
IsSpan Longest g span = (size : ℕ) × IsMaximumSize (IsFreeIn g) g.align size × (0 < size) × IsFreeSpan Best size g span

-- The table has no room for the place.
abbrev pub HasNoRoom : Place → GPT → Type 0
HasNoRoom (At first last) g = ⊥
HasNoRoom (From first) g = HasNoRunWith (IsFreeIn g) first
HasNoRoom (Free size choice) g = HasNoneChosen choice (IsFreeIn g) g.align (max 1 size)
HasNoRoom Longest g = HasNoSlot (IsFreeIn g) g.align
    ⊎ ((size : ℕ) × IsMaximumSize (IsFreeIn g) g.align size × ((size ≡ 0) ⊎ HasNoPlace (IsFreeIn g) g.align (max 1 size)))

-- The place is found, or there is no room for it.
abbrev pub FindsSpan : Place → GPT → Option SectorRange → Type 0
FindsSpan place g found = MatchOption found (HasNoRoom place g) (IsSpan place g)
