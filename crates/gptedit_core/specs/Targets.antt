-- The entry that a number, a name or a GUID selects.
use Rattle.std.specs.Prelude.{◌≡◌, ◌≤◌, ◌<◌, ◌⊎◌, ℕ, Bool, false, ◌&&◌, IsTrue}
use Rattle.std.specs.Str.{bytes_eq}
use Rattle.gptman.specs.Entry.{is_used}
use Rattle.gptman.specs.Number.{entry_at, IsNumber}
use Rattle.gptman.specs.declared.codec.entry.GPTPartitionEntry.{GPTPartitionEntry}
use Rattle.gptman.specs.declared.table.GPT.{GPT}
use Rattle.gptedit_core.specs.declared.target.NotFound.{NotFound}
use Rattle.gptedit_core.specs.declared.target.NotFound.TheVariants.{None as Nothing, Several}
use Rattle.gptedit_core.specs.declared.target.Target.{Target}
use Rattle.gptedit_core.specs.declared.target.Target.TheVariants.{Number, Name, Guid}

-- Number i is that of a used entry with this property.
abbrev pub IsUsedAs : GPT → (GPTPartitionEntry → Type 0) → ℕ → Type 0
IsUsedAs g Has i = IsNumber g i × IsTrue (is_used (entry_at g i)) × Has (entry_at g i)

-- The target selects number i.
abbrev pub Selects : GPT → Target → ℕ → Type 0
Selects g (Number n) i = i ≡ n
Selects g (Name text) i = IsUsedAs g (λ e. e.partition_name.text ≡ text.now) i
Selects g (Guid guid) i = IsUsedAs g (λ e. e.unique_partition_guid ≡ guid) i

-- The target selects number i and no other.
abbrev pub IsOnly : GPT → Target → ℕ → Type 0
IsOnly g target i = Selects g target i × ((j : ℕ) → Selects g target j → j ≡ i)

-- The target selects no number; or it selects i and k, and each other one is above k.
abbrev pub RefusesTarget : GPT → Target → NotFound → Type 0
RefusesTarget g target Nothing = (i : ℕ) → ¬ Selects g target i
RefusesTarget g target (Several i k) = Selects g target i × Selects g target k × (i < k) × ((j : ℕ) → Selects g target j → (j ≡ i) ⊎ (k ≤ j))

-- The entry is used, and has the name or GUID of the target.
abbrev pub is_selected : Target → GPTPartitionEntry → Bool
is_selected (Number n) e = false
is_selected (Name text) e = bytes_eq e.partition_name.text text.now && is_used e
is_selected (Guid guid) e = bytes_eq e.unique_partition_guid guid && is_used e
