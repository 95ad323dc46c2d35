-- The outcome for a table that is fitted to its disk.
use Rattle.std.specs.Prelude.{◌≡◌, ◌≤◌, ℕ}
use Rattle.gptman.specs.Disk.{DiskState}
use Rattle.gptman.specs.Layout.{HasLayout}
use Rattle.gptman.specs.Stop.{IsStored}
use Rattle.gptman.specs.Table.{entries_in, table_in}
use Rattle.gptman.specs.declared.table.GPT.{GPT}
use Rattle.gptedit_core.specs.Growing.{lowest_usable, EndsAt, ReachesEnd, RefusesGrowth}
use Rattle.gptedit_core.specs.Planning.{IsPlanned}
use Rattle.gptedit_core.specs.Reshaping.{HasShape, IsReshaped}
use Rattle.gptedit_core.specs.declared.growth.Bounds.TheVariants.{Kept, Usual}
use Rattle.gptedit_core.specs.declared.plan.Outcome.{Outcome}
use Rattle.gptedit_core.specs.declared.plan.Outcome.TheVariants.{Changed, Unchanged, Refused}
use Rattle.gptedit_core.specs.declared.plan.Request.{Request}
use Rattle.gptedit_core.specs.declared.reshaping.ReshapedRequest.{ReshapedRequest}
use Rattle.gptedit_core.specs.declared.reshaping.Shape.{Shape}

-- The table and its usable sectors end where a disk of len bytes does. The first usable sector is unchanged if
-- possible, and so is everything else.
pub record HasNewEnd (len : ℕ) (was next : GPT) : Type 0 where
  pub reaches : ReachesEnd len was next
  pub first : lowest_usable was ≤ was.header.first_usable_lba → was.header.first_usable_lba ≤ next.header.last_usable_lba
      → next.header.first_usable_lba ≡ was.header.first_usable_lba

-- a changed table has that new end; an unchanged one had it before; a refusal has its reason
abbrev pub IsFitOutcome : ℕ → Outcome → Type 0
IsFitOutcome len (Changed was next) = HasNewEnd len was next
IsFitOutcome len (Unchanged table) = EndsAt len table
IsFitOutcome len (Refused table r) = RefusesGrowth Kept len table r

-- All sectors between the two copies are usable, on a disk of len bytes. Everything else is unchanged.
pub record HasAllUsable (len : ℕ) (was next : GPT) : Type 0 where
  pub reaches : ReachesEnd len was next
  pub first : next.header.first_usable_lba ≡ lowest_usable was

-- the table has all of them usable, or the refusal has its reason
abbrev pub IsWideOutcome : ℕ → Outcome → Type 0
IsWideOutcome len (Changed was next) = HasAllUsable len was next
IsWideOutcome len (Unchanged table) = HasAllUsable len table table
IsWideOutcome len (Refused table r) = RefusesGrowth Usual len table r

-- both places hold a changed table
abbrev pub IsOnDisk : DiskState → Outcome → Type 0
IsOnDisk disk (Changed was next) = IsStored disk next.sector_size (table_in next)
IsOnDisk disk (Unchanged table) = Unit {0}
IsOnDisk disk (Refused table r) = Unit {0}

-- A changed table ends where a disk of len bytes does.
abbrev pub IsNewEnd : ℕ → Outcome → Type 0
IsNewEnd len told = (was next : GPT) → told ≡ Changed was next → EndsAt len next

-- If the table ended there before, the request alone makes the changed one.
abbrev pub IsOwnChange : Request → ℕ → Outcome → Type 0
IsOwnChange request len told = (was next : GPT) → told ≡ Changed was next → EndsAt len was → IsPlanned request len was next

-- The request makes the changed table of one with the entries of the table before.
abbrev pub IsOfSameEntries : Request → ℕ → Outcome → Type 0
IsOfSameEntries request len told = (was next : GPT) → told ≡ Changed was next → (mid : GPT) × (entries_in mid ≡ entries_in was) × IsPlanned request len mid next

-- A changed table has the shape, and the stated layout on a disk of len bytes.
abbrev pub IsNewShape : Shape → ℕ → Outcome → Type 0
IsNewShape shape len told = (was next : GPT) → told ≡ Changed was next → HasShape shape next × HasLayout next len

-- If the table had the shape before, the request alone makes the changed one.
abbrev pub IsOwnReshape : ReshapedRequest → ℕ → Outcome → Type 0
IsOwnReshape reshaped len told = (was next : GPT) → told ≡ Changed was next → HasShape reshaped.shape was → IsPlanned reshaped.request len was next

-- If the table ended before where the disk does, the reshaped request makes the changed one.
abbrev pub IsOwnRefit : ReshapedRequest → ℕ → Outcome → Type 0
IsOwnRefit reshaped len told = (was next : GPT) → told ≡ Changed was next → EndsAt len was → IsReshaped reshaped len was next
