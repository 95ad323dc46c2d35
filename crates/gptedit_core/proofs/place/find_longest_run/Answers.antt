use Rattle.std.proofs.Common.{rules, subst}
use Rattle.gptman.specs.Place.{HasNoSlot, IsFreeIn}
use Rattle.gptman.specs.declared.table.GPT.{GPT}
use Rattle.gptedit_core.proofs.Runs.{longest_at, no_longest}
use Rattle.gptedit_core.proofs.place.find_longest_run.Goals as goal

pub returns-in-Some-clause-value : goal.returns-in-Some-clause-value
returns-in-Some-clause-value c = longest_at (IsFreeIn c.args.table.now) c.in-Ok.length c.in-Some.start (search rules) (search rules)

pub returns-in-Ok-clause-value : goal.returns-in-Ok-clause-value
returns-in-Ok-clause-value c = no_longest (IsFreeIn c.args.table.now) c.in-Ok.length (search rules) (search rules)

pub returns-in-Err-NoSpaceLeft-clause-value : goal.returns-in-Err-NoSpaceLeft-clause-value
returns-in-Err-NoSpaceLeft-clause-value c =
    subst (λ (g : GPT). HasNoSlot (IsFreeIn g) 1) c.in_ok-table.ensures.ok (c.get_maximum_partition_size.ensures.full (search rules))
