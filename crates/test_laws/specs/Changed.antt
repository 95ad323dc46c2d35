-- The effect of a layout on one entry and on the others, and a layout that is applied twice.
use Rattle.std.specs.Prelude.{◌≡◌, ◌≢◌, ◌≤◌, ℕ, [], ◌∷◌, None}
use Rattle.gptman.specs.Number.{entry_at}
use Rattle.gptman.specs.declared.codec.entry.GPTPartitionEntry.{GPTPartitionEntry}
use Rattle.gptman.specs.declared.codec.name.PartitionName.{PartitionName}
use Rattle.gptman.specs.declared.table.GPT.{GPT}
use Rattle.gptedit_core.specs.Applying.{IsStopOf}
use Rattle.gptedit_core.specs.Named.{AreNumbered, IsAgain, IsWhole}
use Rattle.gptedit_core.specs.declared.amount.Amount.TheVariants.{Sectors}
use Rattle.gptedit_core.specs.declared.asked.Asked.{Asked}
use Rattle.gptedit_core.specs.declared.asked.RequestedLayout.{RequestedLayout}
use Rattle.gptedit_core.specs.declared.asked.Mode.TheVariants.{Change}
use Rattle.gptedit_core.specs.declared.plan.Job.TheVariants.{Apply}
use Rattle.gptedit_core.specs.declared.plan.Request.{Request}
use Rattle.gptedit_core.specs.declared.refusal.Stop.{Stop}

-- the entry with another name
abbrev pub with_name : PartitionName → GPTPartitionEntry → GPTPartitionEntry
with_name name e = record e { partition_name = name }

-- all entries but the one of number i are unchanged
abbrev pub OthersStay : ℕ → GPT → GPT → Type 0
OthersStay i g next = (j : ℕ) → 1 ≤ j → j ≢ i → entry_at next j ≡ entry_at g j

-- The layout requests only this change of a used entry, with places at multiples of this number of sectors.
pub record IsChangeOf (a : Asked) (sectors : ℕ) (layout : RequestedLayout) : Type 0 where
  pub mode : layout.mode ≡ Change
  pub disk_guid : layout.disk_guid ≡ None
  pub align : layout.align ≡ Sectors sectors
  pub removed : layout.removed.items ≡ []
  pub asked : layout.asked.items ≡ a ∷ []

-- Both requests apply layouts. The second asks for the same as the first, and the first covers the whole table.
pub record AsksAgain (first again : Request) (g : GPT) : Type 0 where
  pub layout : RequestedLayout
  pub same : RequestedLayout
  pub first_job : first.job ≡ Apply layout
  pub again_job : again.job ≡ Apply same
  pub numbered : AreNumbered layout.asked.items
  pub is_again : IsAgain layout same
  pub whole : IsWhole layout g

-- the only reason to stop is that memory ran out
abbrev pub IsForMemory : Stop → Type 0
IsForMemory stop = IsStopOf (λ r. ⊥) stop
