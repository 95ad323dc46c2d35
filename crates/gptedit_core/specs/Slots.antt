-- The free slots of a table, and those that are left after some sectors are taken. The choice and what is left are
-- said of slots as the library lists them: (start, length).
use Rattle.std.specs.Prelude.{◌≡◌, ◌<◌, ◌⊎◌, ℕ, ◌+◌, ◌-◌, ◌*◌, ◌/◌, ◌%◌, ◌≤◌, ◌++◌, max, min, nat_lt, if◌then◌else◌, IfSome, List, Option, Some, None}
use Rattle.std.specs.Option.{option_to_list}
use Rattle.gptman.specs.Chosen.{IsNoEarlier, IsNoLater, IsTighter}
use Rattle.gptman.specs.Place.{AreSlots, IsFreeIn}
use Rattle.gptman.specs.declared.table.GPT.{GPT}
use Rattle.gptedit_core.specs.Sectors.{pairs_of}
use Rattle.gptedit_core.specs.declared.asked.Choice.{Choice}
use Rattle.gptedit_core.specs.declared.asked.Choice.TheVariants.{First, Last, Best, Longest as InLongest}
use Rattle.gptedit_core.specs.declared.sectors.Slot.{Slot}
use Rattle.gptedit_core.specs.declared.slots.Slots.{Slots}

-- The list is exactly the slots of the table at multiples of align.
abbrev pub AreSlotsOf : GPT → ℕ → List Slot → Type 0
AreSlotsOf g align slots = AreSlots (IsFreeIn g) align (pairs_of slots)

-- The slots and the runs that are computed are those of the table.
abbrev pub AreKept : Slots → GPT → Type 0
AreKept kept g = IfSome kept.slots (λ v. AreSlotsOf g g.align v.items) × IfSome kept.runs (λ v. AreSlotsOf g 1 v.items)

-- The slot is longer, or as long and not later.
abbrev pub IsLonger : ℕ × ℕ → ℕ × ℕ → Type 0
IsLonger s t = (t.1 < s.1) ⊎ ((s.1 ≡ t.1) × (s.0 ≤ t.0))

-- The first slot is at least as good a choice as the second.
abbrev pub IsNoWorse : Choice → ℕ × ℕ → ℕ × ℕ → Type 0
IsNoWorse First = IsNoLater
IsNoWorse Last = IsNoEarlier
IsNoWorse Best = IsTighter
IsNoWorse InLongest = IsLonger

-- The slot contains the sectors from first to last.
abbrev pub HasSpan : ℕ → ℕ → ℕ × ℕ → Type 0
HasSpan first last s = (s.0 ≤ first) × (last < s.0 + s.1)

-- Where n sectors start in the chosen slot.
abbrev pub start_in : Choice → ℕ → ℕ → ℕ × ℕ → ℕ
start_in First align n s = s.0
start_in Last align n s = s.0 + (s.1 - n) / align * align
start_in Best align n s = s.0
start_in InLongest align n s = s.0

-- The first multiple of align from x on.
abbrev pub round_up : ℕ → ℕ → ℕ
round_up align x = if nat_lt 0 (x % align) then x + (align - x % align) else x

-- The part of a slot before sector first.
abbrev pub before_of : ℕ → ℕ × ℕ → Option (ℕ × ℕ)
before_of first s = if nat_lt s.0 first then Some (s.0, min s.1 (first - s.0)) else None

-- The part of a slot from the first multiple of align after sector last.
abbrev pub behind_of : ℕ → ℕ → ℕ × ℕ → Option (ℕ × ℕ)
behind_of align last s =
    let start = round_up align (max s.0 (last + 1)) in
    if nat_lt start (s.0 + s.1) then Some (start, s.0 + s.1 - start) else None

-- The parts of a slot without the sectors from first to last.
abbrev pub rest_of : ℕ → ℕ → ℕ → ℕ × ℕ → List (ℕ × ℕ)
rest_of align first last s = option_to_list (before_of first s) ++ option_to_list (behind_of align last s)
