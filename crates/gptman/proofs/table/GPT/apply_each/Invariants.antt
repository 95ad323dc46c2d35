use Rattle.std.proofs.Common.{◌≡◌, drop}
use Rattle.gptman.specs.Edit.{edited_all, edits_fault}
use Rattle.gptman.proofs.table.GPT.apply_each.Given as goal

abbrev pub invariant-loop-edit : goal.invariant-loop-edit
invariant-loop-edit l =
    (edited_all l.self (drop l.edit-index l.edits) ≡ edited_all l.fn.self l.fn.edits)
    × (edits_fault l.self (drop l.edit-index l.edits) ≡ edits_fault l.fn.self l.fn.edits)
