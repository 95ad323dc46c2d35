-- The order in which a layout is carried out.
use Rattle.std.specs.Prelude.{◌≡◌, ◌++◌, Bool, false, not, None, Some}
use Rattle.std.specs.List.{filter}
use Rattle.gptman.specs.Entry.{is_used}
use Rattle.gptman.specs.Number.{entry_of_number}
use Rattle.gptman.specs.declared.table.GPT.{GPT}
use Rattle.gptedit_core.specs.declared.asked.Asked.{Asked}
use Rattle.gptedit_core.specs.declared.asked.RequestedLayout.{RequestedLayout}

-- The request names a used entry.
abbrev pub asks_used : GPT → Asked → Bool
asks_used g a = elim a.number [ None ↦ false | Some i ↦ elim (entry_of_number g i) [ None ↦ false | Some e ↦ is_used e ] ]

-- The requests for used entries come first, and the others after them, each in their order. Nothing else changes.
pub record IsUsedFirst (g : GPT) (was next : RequestedLayout) : Type 0 where
  pub asked : next.asked.items ≡ filter (asks_used g) was.asked.items ++ filter (λ a. not (asks_used g a)) was.asked.items
  pub mode : next.mode ≡ was.mode
  pub disk_guid : next.disk_guid ≡ was.disk_guid
  pub align : next.align ≡ was.align
  pub removed : next.removed ≡ was.removed
