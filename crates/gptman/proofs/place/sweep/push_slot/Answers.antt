use Rattle.gptman.specs.Sweep.AddsSlot.{added}
use Rattle.gptman.proofs.place.sweep.push_slot.Goals as goal

pub returns-in_ok-push : goal.returns-in_ok-push
returns-in_ok-push c = added c.in-Some.slot c.in-Some.ensures c.in_ok-push.ensures.items
