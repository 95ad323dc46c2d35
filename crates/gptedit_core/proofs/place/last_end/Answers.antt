use Rattle.std.proofs.Common.{◌+◌, ◌-◌, ◌%◌, arith}
use Rattle.gptedit_core.proofs.Ends.{last_before}
use Rattle.gptedit_core.proofs.place.last_end.Goals as goal

pub returns : goal.returns
returns c = last_before c.args.align c.args.far (c.args.far - (c.args.far % c.args.align + 1)) c.requires c.if-over-align.false (omega arith)
