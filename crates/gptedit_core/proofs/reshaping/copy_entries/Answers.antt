use Rattle.std.proofs.Common.{rules, ◌≡◌, ◌∙◌, ℕ, [], ◌++◌, map}
use Rattle.std.specs.List.{enumerate_from}
use Rattle.gptman.specs.Table.{entries_in}
use Rattle.gptman.specs.declared.codec.entry.GPTPartitionEntry.{GPTPartitionEntry}
use Rattle.gptedit_core.proofs.Reshaped.{map_numbered}
use Rattle.gptedit_core.proofs.reshaping.copy_entries.Goals as goal

pub loop-entry-init : goal.loop-entry-init
loop-entry-init c =
    let none : c.new-entries.result.items ≡ [] = search rules in
    let is : c.into_iter-entry-iterator.result ≡ enumerate_from 1 (entries_in c.args.table.now) = search rules in
    (tt, tt, (λ i. none i ++ map (λ (p : ℕ × GPTPartitionEntry). p.1) (is i)) ∙ map_numbered 1 (entries_in c.args.table.now))
