use Rattle.std.specs.Prelude.{Some}
use Rattle.gptman_change.proofs.Written.{is_made}
use Rattle.example_plan.specs.Adding.{IsWith}
use Rattle.example_plan.proofs.Placed.{keeps_places}
use Rattle.example_plan.proofs.add_partition.Goals as goal

pub returns-clause-safe : goal.returns-clause-safe
returns-clause-safe g c = λ was good.
    c.change_table.ensures.safe (keeps_places c.args.new.now.partition c.args.new.now.size c.what_is_read_is_kept.ensures.edited) was good

pub returns-clause-added : goal.returns-clause-added
returns-clause-added g c = λ honest.
    is_made (IsWith c.args.new.now.partition c.args.new.now.size) (λ _ _. ⊥) (λ table first never. never) (Some 512) _ _ c.change_table.result (c.change_table.ensures.changed honest)
