-- The state of a disk, as contracts see it, and the effect of its calls.
use Rattle.std.specs.Prelude.{◌≡◌, ◌<◌, ◌≤◌, ◌⊎◌, ◌+◌, ◌++◌, ℕ, Bool, true, IsTrue, List, [], ◌∷◌, length, get_or, take, drop}
use Rattle.gptman_disk.specs.Bytes.{part}

-- A disk at one moment. `left_since t b`: a crash at or after moment t, also within a call, may have left b.
pub record DiskState : Type 1 where
  pub size : ℕ
  pub position : ℕ
  pub view : List ℕ
  pub pending : List (ℕ × ℕ)
  pub failures : ℕ
  pub clock : ℕ
  pub left_since : ℕ → List ℕ → Type 0
  pub is_honest : Bool

-- an honest disk returns what was written to it, and loses nothing that was synced
abbrev pub IsHonest : DiskState → Type 0
IsHonest disk = IsTrue disk.is_honest

-- the next n bytes from the position
abbrev pub next_bytes : DiskState → ℕ → List ℕ
next_bytes disk n = part disk.view disk.position n

-- the range of the next n bytes
abbrev pub next_range : DiskState → ℕ → ℕ × ℕ
next_range disk n = (disk.position, n)

-- the next n bytes are on the disk
abbrev pub HasNext : DiskState → ℕ → Type 0
HasNext disk n = disk.position + n ≤ disk.size

-- the next n bytes pass the end of the disk
abbrev pub PassesEnd : DiskState → ℕ → Type 0
PassesEnd disk n = disk.size < disk.position + n

-- the position advanced by n bytes
abbrev pub Moves : DiskState → DiskState → ℕ → Type 0
Moves old new n = new.position ≡ old.position + n

-- the position is unchanged
abbrev pub StaysAt : DiskState → DiskState → Type 0
StaysAt old new = new.position ≡ old.position

-- the position is at this byte, which is returned
abbrev pub IsPositionedAt : DiskState → ℕ → ℕ → Type 0
IsPositionedAt disk at answer = (answer ≡ at) × (disk.position ≡ at)

-- k is in none of the ranges, each a start and a length
abbrev pub Outside : List (ℕ × ℕ) → ℕ → Type 0
Outside [] k = Unit {0}
Outside (range ∷ ranges) k = ((k < range.0) ⊎ (range.0 + range.1 ≤ k)) × Outside ranges k

-- two lists of bytes of equal length are equal outside the ranges
pub record AgreesOutside (ranges : List (ℕ × ℕ)) (a b : List ℕ) : Type 0 where
  pub long : length b ≡ length a
  pub same : (k : ℕ) → Outside ranges k → get_or b k 0 ≡ get_or a k 0

-- each index in the inner ranges is in the outer ones
pub record Within (inner outer : List (ℕ × ℕ)) : Type 0 where
  pub covers : (k : ℕ) → Outside outer k → Outside inner k

-- both lists of ranges cover the same indexes
pub record CoverTheSame (one other : List (ℕ × ℕ)) : Type 0 where
  pub there : Within one other
  pub back : Within other one

-- a crash now may leave these bytes: anything in the pending ranges, and elsewhere what a read returns
abbrev pub Image : DiskState → List ℕ → Type 0
Image disk b = AgreesOutside disk.pending disk.view b

-- the list old, overwritten with these bytes from index at
abbrev pub overlay : List ℕ → ℕ → List ℕ → List ℕ
overlay old at bytes = take at old ++ bytes ++ drop (at + length bytes) old

-- the count of failures rose, or is at its maximum
abbrev pub Rose : DiskState → DiskState → Type 0
Rose old new = (old.failures < new.failures) ⊎ (18446744073709551615 ≤ new.failures)

-- the count of failures is unchanged
abbrev pub HasFailedAsOften : DiskState → DiskState → Type 0
HasFailedAsOften old new = new.failures ≡ old.failures

-- a count rose by one, or is at its maximum
abbrev pub IsCountedOnce : ℕ → ℕ → Type 0
IsCountedOnce old new = (new ≡ old + 1) ⊎ ((18446744073709551615 ≤ old) × (new ≡ old))

-- the count of failures rose by one, or is at its maximum
abbrev pub HasFailedOnce : DiskState → DiskState → Type 0
HasFailedOnce old new = IsCountedOnce old.failures new.failures

-- the count of failures rose by at most one
abbrev pub HasFailedOnceAtMost : DiskState → DiskState → Type 0
HasFailedOnceAtMost old new = new.failures ≤ old.failures + 1

-- On every disk: length and honesty are unchanged, and the count of failures does not fall.
pub record Keeps (old new : DiskState) : Type 0 where
  pub size : new.size ≡ old.size
  pub honest : new.is_honest ≡ old.is_honest
  pub failures : old.failures ≤ new.failures

-- After calls that took the disk from old to new: what may have been left since t may have been left since t before
-- them, or since they began.
pub record Elapses (old new : DiskState) : Type 0 where
  pub later : old.clock ≤ new.clock
  pub nothing_else : (t : ℕ) (b : List ℕ) → t ≤ old.clock → new.left_since t b → old.left_since t b ⊎ new.left_since old.clock b
  pub keeps : (t : ℕ) (b : List ℕ) → t ≤ old.clock → old.left_since t b → new.left_since t b
  pub earlier : (t u : ℕ) (b : List ℕ) → t ≤ u → new.left_since u b → new.left_since t b

-- a crash at any moment since old leaves bytes with the property P
abbrev pub LeavesOnly : DiskState → DiskState → (List ℕ → Type 0) → Type 0
LeavesOnly old new P = (b : List ℕ) → new.left_since old.clock b → P b

-- On an honest disk, calls that wrote only in these ranges.
pub record Wrote (ranges : List (ℕ × ℕ)) (old new : DiskState) : Type 0 where
  pub honest : new.is_honest ≡ true
  pub view : AgreesOutside ranges old.view new.view
  pub pending : Within new.pending (ranges ++ old.pending)
  pub crash : LeavesOnly old new (AgreesOutside (ranges ++ old.pending) old.view)
  pub time : Elapses old new

-- An honest disk of these bytes, all of them synced, at position 0, without failures so far.
pub record IsFresh (bytes : List ℕ) (disk : DiskState) : Type 0 where
  pub honest : IsHonest disk
  pub view : disk.view ≡ bytes
  pub synced : disk.pending ≡ []
  pub position : disk.position ≡ 0
  pub failures : disk.failures ≡ 0

-- The laws of an honest disk.
pub record IsSound (disk : DiskState) : Type 0 where
  pub size : length disk.view ≡ disk.size
  pub counts_now : (t : ℕ) (b : List ℕ) → t ≤ disk.clock → Image disk b → disk.left_since t b
  pub only_now : (b : List ℕ) → disk.left_since disk.clock b → Image disk b
  pub earlier : (t u : ℕ) (b : List ℕ) → t ≤ u → disk.left_since u b → disk.left_since t b

-- On an honest disk, calls that only read.
pub record OnlyRead (old new : DiskState) : Type 0 where
  pub view : new.view ≡ old.view
  pub pending : new.pending ≡ old.pending
  pub wrote : Wrote [] old new

-- A call that only reads: on every disk length and honesty are unchanged, and on an honest disk bytes and pending
-- ranges too.
pub record Reads (old new : DiskState) : Type 0 where
  pub keeps : Keeps old new
  pub only : IsHonest old → OnlyRead old new

-- a call that writes only in these ranges, on an honest disk
abbrev pub Writes : List (ℕ × ℕ) → DiskState → DiskState → Type 0
Writes ranges old new = IsHonest old → Wrote ranges old new

-- nothing was written
pub record Untouched (old new : DiskState) : Type 0 where
  pub view : new.view ≡ old.view
  pub pending : new.pending ≡ old.pending

-- position and bytes are unchanged
abbrev pub ReadsOnAsBefore : DiskState → DiskState → Type 0
ReadsOnAsBefore old new = StaysAt old new × (new.view ≡ old.view)

-- the disk failed, or nothing was written
abbrev pub FailedOrUntouched : DiskState → DiskState → Type 0
FailedOrUntouched old new = Rose old new ⊎ Untouched old new

-- the next bytes were overwritten with these
abbrev pub Overlays : List ℕ → DiskState → DiskState → Type 0
Overlays bytes old new = new.view ≡ overlay old.view old.position bytes

-- each byte of the range is pending
abbrev pub IsPending : ℕ × ℕ → DiskState → Type 0
IsPending range disk = Within (range ∷ []) disk.pending

-- each byte that was pending still is
abbrev pub StaysPending : DiskState → DiskState → Type 0
StaysPending old new = Within old.pending new.pending

-- the bytes that were pending and those of the range are pending, and no others; how they are split into ranges is left
-- open
abbrev pub GrowsBy : ℕ × ℕ → DiskState → DiskState → Type 0
GrowsBy range old new = CoverTheSame new.pending (range ∷ old.pending)

-- The next bytes were overwritten with these, and are not synced.
pub record HasOverwritten (bytes : List ℕ) (old new : DiskState) : Type 0 where
  pub view : Overlays bytes old new
  pub pending : GrowsBy (next_range old (length bytes)) old new

-- nothing was written, or the next n bytes are not synced
abbrev pub MayHaveWritten : ℕ → DiskState → DiskState → Type 0
MayHaveWritten n old new = Untouched old new ⊎ GrowsBy (next_range old n) old new

-- nothing was written, or this range is not synced
abbrev pub LeavesPending : ℕ × ℕ → DiskState → DiskState → Type 0
LeavesPending range old new = Untouched old new ⊎ IsPending range new
