-- The layouts for the entries that targets select.
use Rattle.std.specs.Prelude.{◌≡◌, ◌^◌, ℕ, List, [], ◌∷◌, Contains, Option, None, Some}
use Rattle.gptman.specs.declared.table.GPT.{GPT}
use Rattle.gptedit_core.specs.Targets.{IsOnly, RefusesTarget}
use Rattle.gptedit_core.specs.declared.amount.Amount.{Amount}
use Rattle.gptedit_core.specs.declared.amount.Amount.TheVariants.{Bytes, Sectors}
use Rattle.gptedit_core.specs.declared.asked.Asked.{Asked}
use Rattle.gptedit_core.specs.declared.asked.Choice.TheVariants.{First}
use Rattle.gptedit_core.specs.declared.asked.Mode.TheVariants.{Change}
use Rattle.gptedit_core.specs.declared.asked.RequestedLayout.{RequestedLayout}
use Rattle.gptedit_core.specs.declared.asked.Size.TheVariants.{Rest}
use Rattle.gptedit_core.specs.declared.selecting.NoLayout.{NoLayout}
use Rattle.gptedit_core.specs.declared.selecting.NoLayout.TheVariants.{NotFound, OutOfMemory}
use Rattle.gptedit_core.specs.declared.target.Target.{Target}

-- Each target selects the number at its place, and no other.
abbrev pub AreOnly : GPT → List Target → List ℕ → Type 0
AreOnly g [] [] = Unit {0}
AreOnly g (target ∷ targets) (i ∷ numbers) = IsOnly g target i × AreOnly g targets numbers
AreOnly g targets numbers = ⊥

-- One of the targets selects no entry for this reason, or an allocation failed.
abbrev pub RefusesOne : GPT → List Target → NoLayout → Type 0
RefusesOne g targets OutOfMemory = Unit {0}
RefusesOne g targets (NotFound target reason) = Contains targets target × RefusesTarget g target reason

-- The layout changes used entries, with this alignment, and keeps the disk GUID.
pub record Changes (align : Amount) (layout : RequestedLayout) : Type 0 where
  pub mode_is : layout.mode ≡ Change
  pub guid_stays : layout.disk_guid ≡ None
  pub align_is : layout.align ≡ align

-- The layout removes the selected entries, in their order, and asks for nothing.
pub record Removes (g : GPT) (targets : List Target) (layout : RequestedLayout) : Type 0 where
  pub changes : Changes (Sectors 1) layout
  pub numbers : AreOnly g targets layout.removed.items
  pub asks_none : layout.asked.items ≡ []

-- The request for entry i.
abbrev pub asked_for : ℕ → Asked → Asked
asked_for i a = record {
  number = Some i;
  type_guid = a.type_guid;
  unique_guid = a.unique_guid;
  attributes = a.attributes;
  name = a.name;
  start = a.start;
  size = a.size;
  choice = a.choice;
}

-- The entry of this number is the selected one, and what is asked of it is this.
abbrev pub IsAskedOf : GPT → Target → Asked → Asked → Option ℕ → Type 0
IsAskedOf g target asked this (Some i) = IsOnly g target i × (this ≡ asked_for i asked)
IsAskedOf g target asked this None = ⊥

-- Only this is asked, and of the selected entry.
abbrev pub AsksOnly : GPT → Target → Asked → List Asked → Type 0
AsksOnly g target asked (this ∷ []) = IsAskedOf g target asked this this.number
AsksOnly g target asked entries = ⊥

-- The layout changes the selected entry as asked, and nothing else.
pub record Alters (g : GPT) (target : Target) (align : Amount) (asked : Asked) (layout : RequestedLayout) : Type 0 where
  pub changes : Changes align layout
  pub removes_none : layout.removed.items ≡ []
  pub asks : AsksOnly g target asked layout.asked.items

-- What is asked of an entry that is extended.
abbrev pub asked_rest : Asked
asked_rest = record { number = None; type_guid = None; unique_guid = None; attributes = None; name = None; start = None; size = Some Rest; choice = First }

-- The layout extends the selected entry over all that is free after it, to a multiple of 1 MiB, and does nothing else.
abbrev pub Extends : GPT → Target → RequestedLayout → Type 0
Extends g target layout = Alters g target (Bytes (2 ^ 20)) asked_rest layout
