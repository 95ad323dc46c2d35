use Rattle.std.proofs.Common.{below_more}
use Rattle.gptedit_look.proofs.guard.find_in_bytes.Goals as goal

pub loop-i-preserved : goal.loop-i-preserved
loop-i-preserved c = below_more _ _ c.loop-i.invariant (c.may_be_overwritten.ensures.0 c.if-not-may_be_overwritten.false)
