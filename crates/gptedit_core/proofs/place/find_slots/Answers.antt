use Rattle.gptedit_core.proofs.Offered.{all_long, named_slots}
use Rattle.gptedit_core.proofs.place.find_slots.Goals as goal

pub name_slots-requires-clause-some : goal.name_slots-requires-clause-some
name_slots-requires-clause-some c = all_long c.args.table.now c.args.table.now.align c.in_ok-pairs.pairs.items c.in_ok-pairs.ensures.value

pub returns-clause-value : goal.returns-clause-value
returns-clause-value c =
    named_slots c.args.table.now c.args.table.now.align c.in_ok-pairs.pairs.items c.in_ok-name_slots.field-0.items c.in_ok-pairs.ensures.value c.in_ok-name_slots.ensures
