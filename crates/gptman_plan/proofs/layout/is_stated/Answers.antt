use Rattle.gptman_plan.specs.Reading.{copy_place_of}
use Rattle.gptman_plan.proofs.layout.is_stated.Goals as goal

pub returns-then-is_of_side : goal.returns-then-is_of_side
returns-then-is_of_side c = (
  λ yes. (c.is_of_side.ensures.0 c.if-is_of_side.true, (c.has_layout.ensures.0 yes).table),
  λ is. c.has_layout.ensures.1 (record { table = is.1; side = copy_place_of c.args.is_backup; form = is.0 }),
)
