-- A change of one entry: its fields and its number.
use Rattle.std.specs.Prelude.{◌≡◌, ◌≢◌, ◌<◌, ℕ, nat_eq, if◌then◌else◌, List, [], ◌∷◌, length, Option, None, Some, IsTrue, unwrap_or}
use Rattle.std.specs.Int.{bit_at}
use Rattle.gptman.specs.Coding.{empty_entry}
use Rattle.gptman.specs.Entry.{is_unused}
use Rattle.gptman.specs.Number.{entry_of_number, with_entry}
use Rattle.gptman.specs.declared.codec.entry.GPTPartitionEntry.{GPTPartitionEntry}
use Rattle.gptman.specs.declared.table.GPT.{GPT}
use Rattle.gptedit_core.specs.Applying.{IsApplied}
use Rattle.gptedit_core.specs.Dumping.{asked_of}
use Rattle.gptedit_core.specs.declared.amount.Amount.TheVariants.{Sectors}
use Rattle.gptedit_core.specs.declared.asked.Mode.TheVariants.{Add, Change}
use Rattle.gptedit_core.specs.declared.asked.RequestedLayout.{RequestedLayout}
use Rattle.gptedit_core.specs.declared.attributes.AttributeChange.{AttributeChange}
use Rattle.gptedit_core.specs.declared.refusal.Refusal.{Refusal}
use Rattle.gptedit_core.specs.declared.refusal.Refusal.TheVariants.{IsUnused, NoEntry}
use Rattle.gptedit_core.specs.declared.setting.NewGuid.{NewGuid}
use Rattle.gptedit_core.specs.declared.setting.NewGuid.TheVariants.{Given, Random}
use Rattle.gptedit_core.specs.declared.setting.Setting.{Setting}

-- What becomes of bit k with the value b: 1 if the change sets it, else 0 if the change clears it, else b.
abbrev pub bit_after : AttributeChange → ℕ → ℕ → ℕ
bit_after change k b = if nat_eq (bit_at change.set k) 1 then 1 else (if nat_eq (bit_at change.clear k) 1 then 0 else b)

abbrev pub bit_after_any : Option AttributeChange → ℕ → ℕ → ℕ
bit_after_any None k b = b
bit_after_any (Some change) k b = bit_after change k b

-- The GUID of an entry that had the GUID `old`.
abbrev pub guid_after : Option NewGuid → List ℕ → List ℕ → List ℕ
guid_after None random old = old
guid_after (Some (Given guid)) random old = guid
guid_after (Some Random) random old = random

-- The entry has the fields of the setting afterwards, and no other field changes.
pub record IsSetTo (setting : Setting) (random : List ℕ) (before after : GPTPartitionEntry) : Type 0 where
  pub type : after.partition_type_guid ≡ unwrap_or setting.type_guid before.partition_type_guid
  pub guid : after.unique_partition_guid ≡ guid_after setting.guid random before.unique_partition_guid
  pub name : after.partition_name ≡ unwrap_or setting.name before.partition_name
  pub attributes : (k : ℕ) → k < 64 → bit_at after.attribute_bits k ≡ bit_after_any setting.attributes k (bit_at before.attribute_bits k)
  pub first : after.starting_lba ≡ before.starting_lba
  pub last : after.ending_lba ≡ before.ending_lba

-- The number of the entry afterwards.
abbrev pub number_after : Setting → ℕ → ℕ
number_after setting i = unwrap_or setting.number i

-- The layout changes entry i, which stays at its number.
pub record IsChangeOf (i : ℕ) (after : GPTPartitionEntry) (layout : RequestedLayout) : Type 0 where
  pub mode : layout.mode ≡ Change
  pub removed : layout.removed.items ≡ []
  pub asked : layout.asked.items ≡ record (asked_of i after) { start = None; size = None } ∷ []

-- The layout removes entry i, and adds the entry as number j.
pub record IsMoveOf (i j : ℕ) (after : GPTPartitionEntry) (layout : RequestedLayout) : Type 0 where
  pub mode : layout.mode ≡ Add
  pub removed : layout.removed.items ≡ i ∷ []
  pub asked : layout.asked.items ≡ asked_of j after ∷ []

-- The layout changes the used entry i of the table as the setting says, and its number. The disk GUID stays.
pub record IsSettingOf (g : GPT) (i : ℕ) (setting : Setting) (random : List ℕ) (layout : RequestedLayout) : Type 0 where
  pub before : GPTPartitionEntry
  pub there : entry_of_number g i ≡ Some before
  pub used : ¬ IsTrue (is_unused before)
  pub after : GPTPartitionEntry
  pub set : IsSetTo setting random before after
  pub stays : number_after setting i ≡ i → IsChangeOf i after layout
  pub moves : number_after setting i ≢ i → IsMoveOf i (number_after setting i) after layout
  pub disk_guid : layout.disk_guid ≡ None
  pub align : layout.align ≡ Sectors 1

-- Entry i cannot be changed: there is none, or it is unused.
pub data RefusesSetting (g : GPT) (i : ℕ) (r : Refusal) : Type 0 where
  no_entry : entry_of_number g i ≡ None → r ≡ NoEntry i → RefusesSetting g i r
  unused : (e : GPTPartitionEntry) → entry_of_number g i ≡ Some e → IsTrue (is_unused e) → r ≡ IsUnused i → RefusesSetting g i r

-- The table has the changed entry at its number afterwards. Under another number than before, the old one is unused.
-- All other entries and fields are unchanged.
pub record IsSetIn (g : GPT) (i : ℕ) (setting : Setting) (random : List ℕ) (next : GPT) : Type 0 where
  pub before : GPTPartitionEntry
  pub there : entry_of_number g i ≡ Some before
  pub after : GPTPartitionEntry
  pub set : IsSetTo setting random before after
  pub next_is : next ≡ with_entry (with_entry g i empty_entry) (number_after setting i) after

-- A layout of a setting makes exactly that of a table.
abbrev pub SettingsChangeOne : Type 0
SettingsChangeOne = (g next : GPT) (i : ℕ) (setting : Setting) (random : List ℕ) (layout : RequestedLayout) (randoms : List (List ℕ))
    → IsSettingOf g i setting random layout → 0 < length randoms → IsApplied layout randoms g next → IsSetIn g i setting random next
