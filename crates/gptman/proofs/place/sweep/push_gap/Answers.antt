use Rattle.gptman.specs.Sweep.AddsGap.{gap}
use Rattle.gptman.proofs.place.sweep.push_gap.Goals as goal

pub returns-in_ok-push_slot : goal.returns-in_ok-push_slot
returns-in_ok-push_slot c = gap c.if-passed-to.true c.in_ok-push_slot.ensures
