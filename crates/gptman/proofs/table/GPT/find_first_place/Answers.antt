use Rattle.std.proofs.Common.{arith}
use Rattle.gptman.proofs.Offers.{asked, none_offered, offered, first}
use Rattle.gptman.proofs.table.GPT.find_first_place.Goals as goal

pub returns-in-Some : goal.returns-in-Some
returns-in-Some c = offered first c.args.self.now c.args.size c.max-size.result c.deref.result.now _ (asked _ _ _ _ _ c.requires (omega arith) c.deref.ensures.value c.in_ok-slots.ensures.value c.in_ok-slots.ensures.fits) c.in-Some.ensures

pub returns-clause-value : goal.returns-clause-value
returns-clause-value c = none_offered c.args.self.now c.args.size c.max-size.result c.deref.result.now (asked _ _ _ _ _ c.requires (omega arith) c.deref.ensures.value c.in_ok-slots.ensures.value c.in_ok-slots.ensures.fits) c.in-None.ensures
