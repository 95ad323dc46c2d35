use Rattle.std.proofs.Common.{◌≡◌, ◌++◌, length}
use Rattle.std.specs.Vec.Iter.{into_iter_items, into_iter_len}
use Rattle.gptman.proofs.CommitLoop.{AreMade}
use Rattle.gptman.proofs.table.GPT.commit_all.Given as goal

abbrev pub invariant-loop-edit : goal.invariant-loop-edit
invariant-loop-edit g l =
    AreMade l.fn.self l.yielded l.self (g.D.Disk.state l.fn.disk) (g.D.Disk.state l.disk)
    × (l.yielded ++ into_iter_items l.edit-iterator ≡ into_iter_items l.initial.edit-iterator)
    × (l.done ≡ length l.yielded)
    × (into_iter_len l.edit-iterator ≡ length (into_iter_items l.edit-iterator))
    × (length l.yielded ≡ 0 → l.disk ≡ l.fn.disk)
    × ((g.D.Disk.state l.disk).failures ≡ (g.D.Disk.state l.fn.disk).failures)
