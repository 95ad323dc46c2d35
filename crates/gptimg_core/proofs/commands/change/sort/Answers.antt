use Rattle.gptman.proofs.Commits.{coherent_still, edit_keeps}
use Rattle.gptman.specs.declared.edit.Edit.TheVariants.{SortEntries}
use Rattle.gptimg_core.proofs.commands.change.sort.Goals as goal

pub returns-clause-coherent : goal.returns-clause-coherent
returns-clause-coherent c = coherent_still c.args.table.now c.sort.new.self (edit_keeps c.args.table.now c.sort.new.self SortEntries c.in_ok-sort.ensures.value) c.requires.coherent
